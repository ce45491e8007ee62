use Rattle.cluster_calls.specs.Calling.{IsSame}
use Rattle.actor_dispatch.specs.Turning.{LeavesNone}
use Rattle.actor_dispatch.proofs.carrying.carry_all.Given as goal

abbrev pub invariant-loop-n : goal.invariant-loop-n
invariant-loop-n g l = IsSame l.initial.pass l.pass × LeavesNone l.initial.pass.own l.pass.own
