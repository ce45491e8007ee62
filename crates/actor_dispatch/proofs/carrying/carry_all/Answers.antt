use Rattle.actor_dispatch.proofs.Leaving.{both-then}
use Rattle.actor_dispatch.proofs.carrying.carry_all.Goals as goal

pub loop-n-preserved : goal.loop-n-preserved
loop-n-preserved g c = both-then c.args.pass.now c.loop-n.pass c.carry_to.new.pass c.loop-n.invariant c.carry_to.ensures.same c.in-Ok.ensures.turns
