use Rattle.actor_dispatch.proofs.Leaving.{both-then, leaves-then}
use Rattle.actor_dispatch.proofs.taking.take_all.Goals as goal

pub loop-actor-preserved-in-Ok-Some : goal.loop-actor-preserved-in-Ok-Some
loop-actor-preserved-in-Ok-Some g c =
    both-then c.args.pass.now c.loop-actor.pass c.try_turn.new.pass c.loop-actor.invariant c.try_turn.ensures.same c.in-Ok-Some.ensures.turns

pub loop-actor-preserved : goal.loop-actor-preserved
loop-actor-preserved g c =
    both-then c.args.pass.now c.loop-actor.pass c.try_turn.new.pass c.loop-actor.invariant c.try_turn.ensures.same c.in-Ok-None.ensures.turns

pub returns-in-Ok-Over-clause-turns : goal.returns-in-Ok-Over-clause-turns
returns-in-Ok-Over-clause-turns g c =
    leaves-then c.args.pass.now.own c.loop-actor.pass.own c.try_turn.new.pass.own c.loop-actor.invariant.1 c.in-Ok-Over.ensures.turns

pub returns-in-Ok-None-clause-turns : goal.returns-in-Ok-None-clause-turns
returns-in-Ok-None-clause-turns g c =
    leaves-then c.args.pass.now.own c.loop-actor.pass.own c.try_turn.new.pass.own c.loop-actor.invariant.1 c.in-Ok-None.ensures.turns
