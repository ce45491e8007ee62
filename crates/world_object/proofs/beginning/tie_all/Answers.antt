use Rattle.std.proofs.Common.{◌≡◌, ◌∙◌, ◌<◌, List, ap, get_or, length, subst}
use Rattle.script_reader.specs.Valid.{Scripted}
use Rattle.script_reader.specs.declared.script.Tie.{Tie as TieRow}
use Rattle.script_actors.proofs.Beginnings.{actor-at, tie-ends}
use Rattle.world_object.specs.Standing.{seeds_of}
use Rattle.world_object.proofs.Starts.{ties-more}
use Rattle.world_object.proofs.beginning.tie_all.Goals as goal

pub bounds-seeds-tie : goal.bounds-seeds-tie
bounds-seeds-tie c =
    let s = c.args.script.now in
    let same = c.as_slice-tie-items.ensures ∙ ap (λ (x : Scripted). x.ties) c.script.view_is in
    let ties = c.requires.script.ties in
    let x = c.tie-item.result in
    (tie-ends s c.args.seeds.now c.requires.seeds c.loop-tie.tie-index x ties.pass (subst (λ (xs : List TieRow). c.loop-tie.tie-index < length xs) same c.loop-tie-test.true) (subst (λ xs. x ≡ get_or xs c.loop-tie.tie-index x) same c.tie-item.is)).0

pub bounds-seeds-tie-in-loop-tie : goal.bounds-seeds-tie-in-loop-tie
bounds-seeds-tie-in-loop-tie c =
    let s = c.args.script.now in
    let same = c.as_slice-tie-items.ensures ∙ ap (λ (x : Scripted). x.ties) c.script.view_is in
    let ties = c.requires.script.ties in
    let x = c.tie-item.result in
    (tie-ends s c.args.seeds.now c.requires.seeds c.loop-tie.tie-index x ties.pass (subst (λ (xs : List TieRow). c.loop-tie.tie-index < length xs) same c.loop-tie-test.true) (subst (λ xs. x ≡ get_or xs c.loop-tie.tie-index x) same c.tie-item.is)).1

pub loop-tie-preserved : goal.loop-tie-preserved
loop-tie-preserved c =
    let s = c.args.script.now in
    let same = c.as_slice-tie-items.ensures ∙ ap (λ (x : Scripted). x.ties) c.script.view_is in
    let ties = c.requires.script.ties in
    let x = c.tie-item.result in
    let ends = tie-ends s c.args.seeds.now c.requires.seeds c.loop-tie.tie-index x ties.pass (subst (λ (xs : List TieRow). c.loop-tie.tie-index < length xs) same c.loop-tie-test.true) (subst (λ xs. x ≡ get_or xs c.loop-tie.tie-index x) same c.tie-item.is) in
    let from = actor-at s c.args.seeds.now c.requires.seeds x.from c.index-seeds-tie.result ends.0 c.index-seeds-tie.is in
    let to = actor-at s c.args.seeds.now c.requires.seeds x.to c.index-seeds-tie-in-loop-tie.result ends.1 c.index-seeds-tie-in-loop-tie.is in
    record {
      cluster = c.in_ok-tie_one.ensures.cluster ∙ c.loop-tie.invariant.cluster;
      past = ties-more s (seeds_of s) c.as_slice-tie-items.result.now c.loop-tie.tie-index x c.loop-tie-test.true c.tie-item.is c.loop-tie.world.past c.tie_one.new.world.past c.index-seeds-tie.result c.index-seeds-tie-in-loop-tie.result
          c.loop-tie.invariant.past c.in_ok-tie_one.ensures.past from to;
    }
