use Rattle.std.proofs.Common.{◌≡◌, ◌*◌, ◌≤◌, take, reverse}
use Rattle.history_model.specs.Held.{carried}
use Rattle.history_model.specs.Messages.{mail}
use Rattle.quiet_check.proofs.held.carried_to.Given as goal

abbrev pub invariant-loop-i : goal.invariant-loop-i
invariant-loop-i l = record {
  value : l.brought ≡ carried l.target (take l.limit (mail l.owner (reverse (take l.i l.events))));
  bound : l.brought ≤ 18446744073709551616 * l.i;
}
