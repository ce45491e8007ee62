use Rattle.cluster_calls.specs.Calling.{IsSame}
use Rattle.actor_dispatch.specs.Turning.{LeavesNone}
use Rattle.actor_dispatch.proofs.working.wake_some.Given as goal

abbrev pub invariant-loop-woken : goal.invariant-loop-woken
invariant-loop-woken g l = IsSame l.initial.pass l.pass × LeavesNone l.initial.pass.own l.pass.own
