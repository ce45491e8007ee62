use Rattle.std.proofs.Common.{◌≡◌, ◌+◌, ◌∷◌, ℕ, List, Option, None, Some, sym, ◌∙◌, ap, refl, subst, arith}
use Rattle.crgc_ids.specs.Actor.{Actor}
use Rattle.history_model.specs.Cluster.{Cluster, births}
use Rattle.history_model.specs.Story.{Story}
use Rattle.true_config.specs.Readings.{IsNextFlush}
use Rattle.run_model.specs.Round.{flushed, flushes_on}
use Rattle.cluster_round.specs.Halting.{IsRoundHalt}
use Rattle.cluster_round.proofs.Adding.{flushed-adds}
use Rattle.cluster_round.proofs.FlushLemmas.{flushed-all, flushed-start, next-born, next-counted, next-flushed, next-from, next-is, next-over, next-reached}
use Rattle.cluster_round.proofs.Staging.{step-halts}
use Rattle.cluster_round.proofs.flushing.flush_actors.Goals as goal

pub loop-actor-init : goal.loop-actor-init
loop-actor-init c = record { cluster = refl; flushed = flushed-start c.args.course.now.cluster c.args.node c.args.course.now.past }

pub overflow_add-count : goal.overflow_add-count
overflow_add-count c =
    let s = c.args.course.now in
    let t = c.loop-actor.course in
    let at = c.loop-actor.invariant.flushed in
    let next = next-over s.cluster t.cluster c.args.node t.past c.loop-actor.after (Some c.in-Some.actor) c.loop-actor.invariant.cluster (next-is c.world.result.now t c.args.node c.loop-actor.after (Some c.in-Some.actor) c.world.ensures c.in-Some.ensures) in
    let from = next-from s.cluster c.args.node s.past t.past c.loop-actor.after c.loop-actor.count at c.in-Some.actor next in
    let few = at.few in
    omega (arith, from, few, c.serial-serial.ensures.number, c.serial-serial.ensures.in_range)

pub flush-requires : goal.flush-requires
flush-requires c =
    (next-is c.world.result.now c.loop-actor.course c.args.node c.loop-actor.after (Some c.in-Some.actor) c.world.ensures c.in-Some.ensures).0.1

pub returns-in-Err-clause-halt : goal.returns-in-Err-clause-halt
returns-in-Err-clause-halt c =
    let s = c.args.course.now in
    let t = c.loop-actor.course in
    let a = c.in-Some.actor in
    let m = c.args.node in
    let at = c.loop-actor.invariant.flushed in
    let past = flushes_on m s.past in
    let next = next-over s.cluster t.cluster m t.past c.loop-actor.after (Some a) c.loop-actor.invariant.cluster (next-is c.world.result.now t m c.loop-actor.after (Some a) c.world.ensures c.in-Some.ensures) in
    let new = c.flush.new.course.past in
    let halted = c.in-Err.ensures.halt past (next-counted s.cluster m s.past t.past c.loop-actor.after c.loop-actor.count at a next) in
    step-halts (λ (x : Cluster). flushed x m past) s.cluster t.cluster a.serial a.serial s.past t.past new c.loop-actor.invariant.cluster refl
    (next-reached s.cluster m s.past t.past c.loop-actor.after c.loop-actor.count at a next) c.in-Err.halt (births m s.past)
    (next-born s.cluster m s.past t.past c.loop-actor.after c.loop-actor.count at a next) (flushed-adds s.cluster m past)
    (subst (λ n. IsRoundHalt c.in-Err.halt t.cluster (flushed t.cluster n past a.serial t.past) new) next.0.0 halted)

pub loop-actor-preserved : goal.loop-actor-preserved
loop-actor-preserved c =
    let s = c.args.course.now in
    let t = c.loop-actor.course in
    let a = c.in-Some.actor in
    let m = c.args.node in
    let at = c.loop-actor.invariant.flushed in
    let past = flushes_on m s.past in
    let next = next-over s.cluster t.cluster m t.past c.loop-actor.after (Some a) c.loop-actor.invariant.cluster (next-is c.world.result.now t m c.loop-actor.after (Some a) c.world.ensures c.in-Some.ensures) in
    let done = c.in-Ok.ensures.ok past (next-counted s.cluster m s.past t.past c.loop-actor.after c.loop-actor.count at a next) in
    record {
      cluster = c.in-Ok.ensures.cluster ∙ c.loop-actor.invariant.cluster;
      flushed = next-flushed s.cluster m s.past t.past c.loop-actor.after c.loop-actor.count at a next c.flush.new.course.past
          (done ∙ ap (λ (x : Cluster). flushed x a.node past a.serial t.past) c.loop-actor.invariant.cluster);
    }

pub loop-actor-smaller : goal.loop-actor-smaller
loop-actor-smaller c =
    let s = c.args.course.now in
    let t = c.loop-actor.course in
    let at = c.loop-actor.invariant.flushed in
    let next = next-over s.cluster t.cluster c.args.node t.past c.loop-actor.after (Some c.in-Some.actor) c.loop-actor.invariant.cluster (next-is c.world.result.now t c.args.node c.loop-actor.after (Some c.in-Some.actor) c.world.ensures c.in-Some.ensures) in
    let from = next-from s.cluster c.args.node s.past t.past c.loop-actor.after c.loop-actor.count at c.in-Some.actor next in
    let born = next-born s.cluster c.args.node s.past t.past c.loop-actor.after c.loop-actor.count at c.in-Some.actor next in
    omega (arith, from, born)

pub returns-clause-ok : goal.returns-clause-ok
returns-clause-ok c =
    let s = c.args.course.now in
    let w = c.world.result.now in
    let t = c.loop-actor.course in
    let none = subst (λ (o : Option Actor). IsNextFlush w.cluster c.args.node w.past c.loop-actor.after o) c.in_default.is c.next_flush.ensures in
    let next = next-over s.cluster t.cluster c.args.node t.past c.loop-actor.after None c.loop-actor.invariant.cluster (next-is w t c.args.node c.loop-actor.after None c.world.ensures none) in
    flushed-all s.cluster c.args.node s.past t.past c.loop-actor.after c.loop-actor.count c.loop-actor.invariant.flushed next
