use Rattle.std.proofs.Common.{◌≡◌, ◌∷◌, [], ◌++◌, ◌+◌, ◌∙◌, List, ap, rules, subst, sym}
use Rattle.crgc_ids.specs.Actor.{Actor}
use Rattle.script_reader.specs.Valid.{Scripted}
use Rattle.script_player.proofs.Begun.{SeedsLeft, left-next, seed-done, seed-halts, seed-legal}
use Rattle.script_player.proofs.beginning.seed_all.Goals as goal

pub make-requires-clause-legal : goal.make-requires-clause-legal
make-requires-clause-legal c =
    let s = c.args.script.now in
    let loop = c.loop-seed in
    let same = c.as_slice-seed-items.ensures ∙ ap (λ (x : Scripted). x.seeds) c.script.view_is in
    let next = left-next s.seeds c.as_slice-seed-items.result.now loop.seed-index c.seed-item.result same c.loop-seed-test.true c.seed-item.is in
    seed-legal s c.requires.script loop.seed-index loop.course loop.actors.items c.seed-item.result loop.invariant next

pub returns-in-Err-clause-fault : goal.returns-in-Err-clause-fault
returns-in-Err-clause-fault c =
    let s = c.args.script.now in
    let loop = c.loop-seed in
    let same = c.as_slice-seed-items.ensures ∙ ap (λ (x : Scripted). x.seeds) c.script.view_is in
    let next = left-next s.seeds c.as_slice-seed-items.result.now loop.seed-index c.seed-item.result same c.loop-seed-test.true c.seed-item.is in
    seed-halts s c.requires.script loop.seed-index loop.course loop.actors.items c.seed-item.result loop.invariant next c.in-Err.fault c.in-Err.ensures.fault

pub loop-seed-preserved : goal.loop-seed-preserved
loop-seed-preserved c =
    let s = c.args.script.now in
    let loop = c.loop-seed in
    let same = c.as_slice-seed-items.ensures ∙ ap (λ (x : Scripted). x.seeds) c.script.view_is in
    let next = left-next s.seeds c.as_slice-seed-items.result.now loop.seed-index c.seed-item.result same c.loop-seed-test.true c.seed-item.is in
    let pushed : c.push.new.self.items ≡ c.loop-seed.actors.items ++ c.child_in.result ∷ [] = search rules in
    let added = c.in-Ok.ensures.ok in
    subst (λ (actors : List Actor). SeedsLeft s (c.loop-seed.seed-index + 1) c.make.new.course actors) (sym pushed)
    (seed-done s c.requires.script loop.seed-index loop.course loop.actors.items c.seed-item.result loop.invariant next
    c.make.new.course c.child_in.result added.cluster added.past c.in-Ok.ensures.within (sym c.child_in.ensures ∙ c.in-Ok.ensures.told))
