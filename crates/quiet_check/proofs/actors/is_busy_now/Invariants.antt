use Rattle.std.proofs.Common.{◌≡◌, take, reverse}
use Rattle.history_model.specs.State.{is_busy}
use Rattle.quiet_check.proofs.actors.is_busy_now.Given as goal

abbrev pub invariant-loop-i : goal.invariant-loop-i
invariant-loop-i l = l.busy ≡ is_busy l.actor (reverse (take l.i l.events))
