use Rattle.std.proofs.Common.{◌≡◌, List, subst}
use Rattle.std.specs.Prelude.{IfErr, OnOk}
use Rattle.history_model.specs.declared.events.Event.{Event}
use Rattle.history_model.specs.declared.events.Event.TheVariants.{Publish}
use Rattle.history_model.specs.Cluster.{Cluster}
use Rattle.run_model.specs.Round.{flushed_on, tried}
use Rattle.cluster_round.specs.Steps.{actors_flushed}
use Rattle.cluster_round.proofs.Adding.{tried-adds}
use Rattle.cluster_round.proofs.Staging.{halts-whole, next-halts, next-ok}
use Rattle.cluster_round.proofs.flushing.flush_node.Goals as goal

pub returns-in-Err-clause-halt : goal.returns-in-Err-clause-halt
returns-in-Err-clause-halt c =
    let s = c.args.course.now in
    halts-whole c.in-Err.halt s.cluster (actors_flushed s.cluster c.args.node s.past) (flushed_on s.cluster c.args.node s.past) c.flush_actors.new.course.past
    (λ e. tried-adds s.cluster e c.flush_actors.new.course.past (Publish c.args.node) (actors_flushed s.cluster c.args.node s.past)) c.in-Err.ensures.halt

pub returns-clause-ok : goal.returns-clause-ok
returns-clause-ok c =
    let s = c.args.course.now in
    let t = c.flush_actors.new.course in
    next-ok (λ (x : Cluster). tried x (Publish c.args.node)) s.cluster t.cluster (actors_flushed s.cluster c.args.node s.past) t.past c.try_event.new.course.past c.in-Ok.ensures.cluster c.in-Ok.ensures.ok c.try_event.result c.try_event.ensures.ok

pub returns-clause-halt : goal.returns-clause-halt
returns-clause-halt c =
    let s = c.args.course.now in
    let t = c.flush_actors.new.course in
    next-halts (λ (x : Cluster). tried x (Publish c.args.node)) s.cluster t.cluster (actors_flushed s.cluster c.args.node s.past) t.past c.try_event.new.course.past c.in-Ok.ensures.cluster c.in-Ok.ensures.ok c.try_event.result c.try_event.ensures.halt
