use Rattle.std.proofs.Common.{◌≡◌, ◌*◌, ◌≤◌, take, reverse}
use Rattle.history_model.specs.Held.{gifts}
use Rattle.quiet_check.proofs.held.gifts_to.Given as goal

abbrev pub invariant-loop-i : goal.invariant-loop-i
invariant-loop-i l = record {
  value : l.given ≡ gifts l.cluster l.owner l.target (reverse (take l.i l.events));
  bound : l.given ≤ 3 * l.i;
}
