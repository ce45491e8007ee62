use Rattle.std.proofs.Common.{◌≡◌, ◌+◌, ◌∷◌, ℕ, List, sym, ◌∙◌, ap, subst}
use Rattle.history_model.specs.declared.events.Event.{Event}
use Rattle.history_model.specs.declared.events.Event.TheVariants.{Flush}
use Rattle.history_model.specs.Cluster.{Cluster}
use Rattle.history_model.specs.Legal.{refusal}
use Rattle.run_model.specs.Round.{flushed, published}
use Rattle.cluster_round.specs.Halting.{IsRoundHalt}
use Rattle.cluster_round.proofs.FlushLemmas.{flush-halts, flush-published, flush-published_halts}
use Rattle.cluster_round.proofs.flushing.flush.Goals as goal

pub returns-in-Err-clause-halt : goal.returns-in-Err-clause-halt
returns-in-Err-clause-halt c = λ past counted.
    let s = c.args.course.now in
    flush-halts s.cluster c.args.actor past s.past c.try_event.new.course.past c.in-Err.halt c.requires c.in-Err.ensures.halt

pub returns-clause-ok : goal.returns-clause-ok
returns-clause-ok c =
    let s = c.args.course.now in
    let t = c.try_event.new.course in
    flush-published s.cluster t.cluster c.args.actor c.args.count s.past t.past c.publish_if_due.new.course.past c.node.result c.publish_if_due.result c.requires c.in-Ok.ensures.cluster c.in-Ok.ensures.ok c.node.ensures c.publish_if_due.ensures.ok

pub returns-clause-halt : goal.returns-clause-halt
returns-clause-halt c =
    let s = c.args.course.now in
    let t = c.try_event.new.course in
    flush-published_halts s.cluster t.cluster c.args.actor c.args.count s.past t.past c.publish_if_due.new.course.past c.node.result c.publish_if_due.result c.requires c.in-Ok.ensures.cluster c.in-Ok.ensures.ok c.node.ensures c.publish_if_due.ensures.halt
