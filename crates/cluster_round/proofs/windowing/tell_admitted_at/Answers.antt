use Rattle.std.proofs.Common.{◌<◌, ◌∙◌, arith}
use Rattle.history_model.specs.declared.events.Event.TheVariants.{Window}
use Rattle.history_model.specs.Cluster.{Cluster}
use Rattle.run_model.specs.Round.{tried}
use Rattle.cluster_round.proofs.Adding.{window-adds}
use Rattle.cluster_round.proofs.Staging.{step-halts, step-next}
use Rattle.cluster_round.proofs.windowing.tell_admitted_at.Goals as goal

pub loop-number-preserved : goal.loop-number-preserved
loop-number-preserved c = record {
  cluster = c.in-Ok.ensures.cluster ∙ c.loop-number.invariant.cluster;
  past = step-next (λ (x : Cluster). λ s. tried x (Window c.args.at s)) c.args.course.now.cluster c.loop-number.course.cluster c.loop-number.number c.node-from.result c.args.course.now.past c.loop-number.course.past c.try_event.new.course.past c.loop-number.invariant.cluster c.node-from.ensures c.loop-number.invariant.past c.in-Ok.ensures.ok;
}

pub returns-in-Err-clause-halt : goal.returns-in-Err-clause-halt
returns-in-Err-clause-halt c =
    let cl = c.args.course.now.cluster in
    let nodes = c.nodes-number-end.ensures.nodes in
    let below : c.loop-number.number < cl.nodes = omega arith in
    step-halts (λ (x : Cluster). λ s. tried x (Window c.args.at s)) cl c.loop-number.course.cluster c.loop-number.number c.node-from.result c.args.course.now.past c.loop-number.course.past c.try_event.new.course.past c.loop-number.invariant.cluster c.node-from.ensures c.loop-number.invariant.past c.in-Err.halt cl.nodes below (window-adds cl c.args.at) c.in-Err.ensures.halt
