use Rattle.std.proofs.Common.{◌≡◌, ◌+◌, ◌∙◌, List, ap, subst, sym, take}
use Rattle.std.specs.Prelude.{IsSome}
use Rattle.script_reader.specs.Valid.{Scripted}
use Rattle.script_reader.specs.declared.script.Tie.{Tie as TieRow}
use Rattle.script_actors.specs.Begun.{IsBegun}
use Rattle.script_actors.specs.Table.{names_at}
use Rattle.script_actors.proofs.Beginnings.{actor-at, begun-has, next-free, next-tie, tie-added}
use Rattle.script_actors.proofs.actors.ScriptActors.add_ties.Goals as goal

pub bounds-seeds-tie : goal.bounds-seeds-tie
bounds-seeds-tie c =
    let s = c.args.script.now in
    let same = c.as_slice-tie-items.ensures ∙ ap (λ (x : Scripted). x.ties) c.script.view_is in
    let ties = c.requires.script.ties in
    let x = c.tie-item.result in
    let next = next-tie s c.args.seeds.now c.as_slice-tie-items.result.now c.loop-tie.tie-index x c.loop-tie.self c.requires.actors same ties.pass c.loop-tie-test.true c.tie-item.is c.loop-tie.invariant.begun in
    next.ends.0

pub bounds-seeds-tie-in-loop-tie : goal.bounds-seeds-tie-in-loop-tie
bounds-seeds-tie-in-loop-tie c =
    let s = c.args.script.now in
    let same = c.as_slice-tie-items.ensures ∙ ap (λ (x : Scripted). x.ties) c.script.view_is in
    let ties = c.requires.script.ties in
    let x = c.tie-item.result in
    let next = next-tie s c.args.seeds.now c.as_slice-tie-items.result.now c.loop-tie.tie-index x c.loop-tie.self c.requires.actors same ties.pass c.loop-tie-test.true c.tie-item.is c.loop-tie.invariant.begun in
    next.ends.1

pub bind-requires-clause-here : goal.bind-requires-clause-here
bind-requires-clause-here c =
    let s = c.args.script.now in
    let same = c.as_slice-tie-items.ensures ∙ ap (λ (x : Scripted). x.ties) c.script.view_is in
    let ties = c.requires.script.ties in
    let x = c.tie-item.result in
    let next = next-tie s c.args.seeds.now c.as_slice-tie-items.result.now c.loop-tie.tie-index x c.loop-tie.self c.requires.actors same ties.pass c.loop-tie-test.true c.tie-item.is c.loop-tie.invariant.begun in
    let from = actor-at s c.args.seeds.now c.requires.actors x.from c.index-seeds-tie.result next.ends.0 c.index-seeds-tie.is in
    subst (λ a. IsSome (names_at c.loop-tie.self a)) (sym from) (begun-has s (take c.loop-tie.tie-index s.ties) c.loop-tie.self x.from next.begun next.seeds.0)

pub bind-requires-clause-free : goal.bind-requires-clause-free
bind-requires-clause-free c =
    let s = c.args.script.now in
    let same = c.as_slice-tie-items.ensures ∙ ap (λ (x : Scripted). x.ties) c.script.view_is in
    let ties = c.requires.script.ties in
    let x = c.tie-item.result in
    let next = next-tie s c.args.seeds.now c.as_slice-tie-items.result.now c.loop-tie.tie-index x c.loop-tie.self c.requires.actors same ties.pass c.loop-tie-test.true c.tie-item.is c.loop-tie.invariant.begun in
    let from = actor-at s c.args.seeds.now c.requires.actors x.from c.index-seeds-tie.result next.ends.0 c.index-seeds-tie.is in
    λ names had. next-free s c.loop-tie.tie-index x c.loop-tie.self c.index-seeds-tie.result names ties.pass ties.differ next.below next.is next.begun from had

pub loop-tie-preserved : goal.loop-tie-preserved
loop-tie-preserved c =
    let s = c.args.script.now in
    let same = c.as_slice-tie-items.ensures ∙ ap (λ (x : Scripted). x.ties) c.script.view_is in
    let ties = c.requires.script.ties in
    let x = c.tie-item.result in
    let next = next-tie s c.args.seeds.now c.as_slice-tie-items.result.now c.loop-tie.tie-index x c.loop-tie.self c.requires.actors same ties.pass c.loop-tie-test.true c.tie-item.is c.loop-tie.invariant.begun in
    let from = actor-at s c.args.seeds.now c.requires.actors x.from c.index-seeds-tie.result next.ends.0 c.index-seeds-tie.is in
    let to = actor-at s c.args.seeds.now c.requires.actors x.to c.index-seeds-tie-in-loop-tie.result next.ends.1 c.index-seeds-tie-in-loop-tie.is in
    let binds = c.in_ok-bind.ensures in
    let change = binds.set in
    record {
      begun = subst (λ xs. IsBegun s s.seeds (take (c.loop-tie.tie-index + 1) xs) c.bind.new.self) (sym same)
          (tie-added s c.loop-tie.tie-index x c.loop-tie.self c.bind.new.self c.index-seeds-tie.result c.index-seeds-tie-in-loop-tie.result next.below next.is next.begun from to binds);
      nodes = change.nodes ∙ c.loop-tie.invariant.nodes;
    }
