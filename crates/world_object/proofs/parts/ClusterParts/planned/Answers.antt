use Rattle.std.proofs.Common.{◌≤◌, List, arith, length, subst, sym}
use Rattle.crgc_ids.specs.Actor.{Actor}
use Rattle.world_object.specs.Searching.{planned_of}
use Rattle.world_object.proofs.Starts.{few-seeds, sum-fits, sum-more}
use Rattle.world_object.proofs.parts.ClusterParts.planned.Goals as goal

pub overflow_add-sum : goal.overflow_add-sum
overflow_add-sum c =
    let p = c.args.self.now in
    let xs = c.as_slice-seed-items.result.now in
    let fits =
    sum-fits (planned_of p.script.value p.world.past) xs c.loop-seed.seed-index c.loop-seed.sum c.wakes_of.result
    (subst (λ (ys : List Actor). length ys ≤ 4096) (sym c.as_slice-seed-items.ensures) (few-seeds p c.requires)) c.loop-seed-test.true c.wakes_of.ensures.range c.loop-seed.invariant in
    omega (arith, fits)

pub loop-seed-preserved : goal.loop-seed-preserved
loop-seed-preserved c =
    let p = c.args.self.now in
    let xs = c.as_slice-seed-items.result.now in
    sum-more (planned_of p.script.value p.world.past) xs c.loop-seed.seed-index c.loop-seed.sum c.seed-item.result c.wakes_of.result c.loop-seed-test.true c.seed-item.is c.wakes_of.ensures.value c.wakes_of.ensures.range
    c.loop-seed.invariant
