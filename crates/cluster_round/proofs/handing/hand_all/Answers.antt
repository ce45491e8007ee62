use Rattle.std.proofs.Common.{◌<◌, ◌∙◌, ap, arith}
use Rattle.history_model.specs.Cluster.{Cluster}
use Rattle.cluster_round.specs.Steps.{handed_to}
use Rattle.cluster_round.proofs.Adding.{handed_to-adds}
use Rattle.cluster_round.proofs.Staging.{step-halts, step-next}
use Rattle.cluster_round.proofs.handing.hand_all.Goals as goal

pub loop-number-preserved : goal.loop-number-preserved
loop-number-preserved c = record {
  cluster = c.in-Ok.ensures.cluster ∙ c.loop-number.invariant.cluster;
  past = step-next (handed_to) c.args.course.now.cluster c.loop-number.course.cluster c.loop-number.number c.node.result c.args.course.now.past c.loop-number.course.past c.hand_to.new.course.past c.loop-number.invariant.cluster c.node.ensures c.loop-number.invariant.past c.in-Ok.ensures.ok;
}

pub returns-in-Err-clause-halt : goal.returns-in-Err-clause-halt
returns-in-Err-clause-halt c =
    let cl = c.args.course.now.cluster in
    let nodes = c.nodes-number-end.ensures.nodes in
    let below : c.loop-number.number < cl.nodes = omega arith in
    step-halts (handed_to) cl c.loop-number.course.cluster c.loop-number.number c.node.result c.args.course.now.past c.loop-number.course.past c.hand_to.new.course.past c.loop-number.invariant.cluster c.node.ensures c.loop-number.invariant.past c.in-Err.halt cl.nodes below (handed_to-adds cl) c.in-Err.ensures.halt

pub hand_to-requires : goal.hand_to-requires
hand_to-requires c =
    let nodes = c.nodes-number-end.ensures.nodes in
    let same = ap (λ (x : Cluster). x.nodes) c.loop-number.invariant.cluster in
    omega (arith, nodes, same, c.node.ensures)
