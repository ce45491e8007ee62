use Rattle.std.proofs.Common.{◌≡◌, take, reverse}
use Rattle.history_model.specs.State.{is_root}
use Rattle.quiet_check.proofs.actors.is_root_now.Given as goal

abbrev pub invariant-loop-i : goal.invariant-loop-i
invariant-loop-i l = l.root ≡ is_root l.actor (reverse (take l.i l.events))
