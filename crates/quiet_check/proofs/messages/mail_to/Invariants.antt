use Rattle.std.proofs.Common.{◌≡◌, ◌≤◌, length, take, reverse}
use Rattle.history_model.specs.Messages.{mail}
use Rattle.quiet_check.proofs.messages.mail_to.Given as goal

abbrev pub invariant-loop-i : goal.invariant-loop-i
invariant-loop-i l = record {
  value : l.count ≡ length (mail l.to (reverse (take l.i l.events)));
  bound : l.count ≤ l.i;
}
