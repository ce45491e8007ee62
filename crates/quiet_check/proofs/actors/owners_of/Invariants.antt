use Rattle.std.proofs.Common.{◌≡◌, take, reverse}
use Rattle.quiet_check.specs.Plain.{owners}
use Rattle.quiet_check.proofs.actors.owners_of.Given as goal

abbrev pub invariant-loop-i : goal.invariant-loop-i
invariant-loop-i l = l.actors.items ≡ owners (reverse (take l.i l.events))
