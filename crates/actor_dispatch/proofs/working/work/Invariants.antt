use Rattle.cluster_calls.specs.Calling.{IsSame}
use Rattle.actor_dispatch.specs.Turning.{LeavesNone}
use Rattle.actor_dispatch.proofs.working.work.Given as goal

abbrev pub invariant-loop : goal.invariant-loop
invariant-loop g l = IsSame l.initial.pass l.pass × LeavesNone l.initial.pass.own l.pass.own
