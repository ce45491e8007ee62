use Rattle.std.proofs.Common.{◌≡◌, take, reverse}
use Rattle.quiet_check.specs.Plain.{some_moment, uses}
use Rattle.quiet_check.proofs.messages.is_in_live_message.Given as goal

abbrev pub invariant-loop-i : goal.invariant-loop-i
invariant-loop-i l = l.used ≡ some_moment (uses (reverse l.events) l.actor) (reverse (take l.i l.events))
