use Rattle.std.proofs.Common.{arith, ◌∙◌}
use Rattle.place_marks.proofs.ReachLemmas.{spread-on, spread-whole}
use Rattle.place_marks.proofs.marks.spread.Goals as goal

pub loop-done-preserved : goal.loop-done-preserved
loop-done-preserved g c =
    let old = c.loop-done.marks in
    let new = c.mark_targets.new.marks in
    let more = c.loop-done-test.true in
    let count = c.count.ensures.count in
    let targets = c.mark_targets.ensures in (
      targets.extends.room ∙ c.loop-done.invariant.0,
      spread-on (g.G.PlaceGraph.graph c.args.graph.now) old new c.loop-done.done c.place-place.result c.requires.whole c.loop-done.invariant.1 (omega arith) c.place-place.ensures.place c.place-place.ensures.marked targets,
    )

pub returns-clause-marked : goal.returns-clause-marked
returns-clause-marked g c =
    let all = c.loop-done-test.false in
    let count = c.count.ensures.count in
    spread-whole (g.G.PlaceGraph.graph c.args.graph.now) c.loop-done.marks c.loop-done.done c.loop-done.invariant.1 (omega arith) c.count.ensures.ordered
