use Rattle.std.proofs.Common.{◌≡◌, take, reverse}
use Rattle.quiet_check.specs.Plain.{is_missing, some_moment}
use Rattle.quiet_check.proofs.links.are_messages_missing.Given as goal

abbrev pub invariant-loop-i : goal.invariant-loop-i
invariant-loop-i l = l.missing ≡ some_moment (is_missing (reverse l.events)) (reverse (take l.i l.events))
