use Rattle.cluster_calls.specs.Calling.{IsSame}
use Rattle.actor_dispatch.specs.Turning.{LeavesNone}
use Rattle.actor_dispatch.proofs.taking.take_all.Given as goal

abbrev pub invariant-loop-actor : goal.invariant-loop-actor
invariant-loop-actor g l = IsSame l.initial.pass l.pass × LeavesNone l.initial.pass.own l.pass.own
