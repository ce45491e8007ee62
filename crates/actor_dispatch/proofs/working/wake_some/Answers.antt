use Rattle.actor_dispatch.proofs.Leaving.{both-then, leaves-then}
use Rattle.actor_dispatch.proofs.working.wake_some.Goals as goal

pub loop-woken-preserved : goal.loop-woken-preserved
loop-woken-preserved g c = both-then c.args.pass.now c.loop-woken.pass c.wake.new.pass c.loop-woken.invariant c.wake.ensures.same c.in-Ok-true.ensures.turns

pub returns-in-Ok-false-clause-turns : goal.returns-in-Ok-false-clause-turns
returns-in-Ok-false-clause-turns g c =
    leaves-then c.args.pass.now.own c.loop-woken.pass.own c.wake.new.pass.own c.loop-woken.invariant.1 c.in-Ok-false.ensures.turns
