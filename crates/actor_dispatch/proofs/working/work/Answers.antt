use Rattle.actor_dispatch.proofs.Leaving.{both-then, leaves-then}
use Rattle.actor_dispatch.proofs.working.work.Goals as goal

pub loop-preserved : goal.loop-preserved
loop-preserved g c = both-then c.args.pass.now c.loop.pass c.look.new.pass c.loop.invariant c.look.ensures.same c.in-Ok-false.ensures.turns

pub returns-in-Ok-true-clause-turns : goal.returns-in-Ok-true-clause-turns
returns-in-Ok-true-clause-turns g c =
    leaves-then c.args.pass.now.own c.loop.pass.own c.look.new.pass.own c.loop.invariant.1 c.in-Ok-true.ensures.turns
