use Rattle.crgc_ids.specs.declared.rising.PairCount.{PairCount}
use Rattle.pseudoroot_trace.proofs.TouchLemmas.{looked-next, room-stays, touches-none}
use Rattle.pseudoroot_trace.proofs.touch.touch_targets.Goals as goal

pub loop-row-init : goal.loop-row-init
loop-row-init c = (touches-none c.args.places c.args.kept.now, tt)

pub touch_actor-requires : goal.touch_actor-requires
touch_actor-requires c = room-stays c.args.places c.args.places c.args.kept.now c.loop-row.kept c.loop-row.invariant.0 c.requires

pub loop-row-preserved : goal.loop-row-preserved
loop-row-preserved c =
    looked-next (λ (r : PairCount). r.target) c.args.graph.now c.args.places c.args.kept.now c.loop-row.kept c.touch_actor.new.kept c.args.rows.now c.loop-row.row-index c.row-item.result
    c.loop-row-test.true c.row-item.is c.loop-row.invariant c.touch_actor.ensures.touches c.touch_actor.ensures.actor
