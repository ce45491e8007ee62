use Rattle.std.proofs.Common.{◌<◌, ◌∙◌, arith}
use Rattle.cluster_round.specs.Steps.{windows_at}
use Rattle.cluster_round.proofs.Adding.{windows_at-adds}
use Rattle.cluster_round.proofs.Staging.{step-halts, step-next}
use Rattle.cluster_round.proofs.windowing.tell_admitted.Goals as goal

pub loop-number-preserved : goal.loop-number-preserved
loop-number-preserved c = record {
  cluster = c.in-Ok.ensures.cluster ∙ c.loop-number.invariant.cluster;
  past = step-next (windows_at) c.args.course.now.cluster c.loop-number.course.cluster c.loop-number.number c.node.result c.args.course.now.past c.loop-number.course.past c.tell_admitted_at.new.course.past c.loop-number.invariant.cluster c.node.ensures c.loop-number.invariant.past c.in-Ok.ensures.ok;
}

pub returns-in-Err-clause-halt : goal.returns-in-Err-clause-halt
returns-in-Err-clause-halt c =
    let cl = c.args.course.now.cluster in
    let nodes = c.nodes-number-end.ensures.nodes in
    let below : c.loop-number.number < cl.nodes = omega arith in
    step-halts (windows_at) cl c.loop-number.course.cluster c.loop-number.number c.node.result c.args.course.now.past c.loop-number.course.past c.tell_admitted_at.new.course.past c.loop-number.invariant.cluster c.node.ensures c.loop-number.invariant.past c.in-Err.halt cl.nodes below (windows_at-adds cl) c.in-Err.ensures.halt
