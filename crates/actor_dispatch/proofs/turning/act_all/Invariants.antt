use Rattle.cluster_calls.specs.Calling.{IsSame}
use Rattle.actor_dispatch.specs.Turning.{IsInTurn, LeavesNone}
use Rattle.world_object.specs.State.{as_opening}
use Rattle.actor_dispatch.proofs.turning.act_all.Given as goal

abbrev pub invariant-loop : goal.invariant-loop
invariant-loop g l = IsSame l.initial.pass l.pass × LeavesNone l.initial.pass.own l.pass.own × IsInTurn (as_opening l.lock.start) l.pass l.actor l.turn
