use Rattle.std.proofs.Common.{◌≡◌, ◌≤◌, take, reverse}
use Rattle.history_model.specs.Held.{gave}
use Rattle.quiet_check.proofs.held.drops_by.Given as goal

abbrev pub invariant-loop-event : goal.invariant-loop-event
invariant-loop-event l = record {
  value : l.dropped ≡ gave l.owner l.target (reverse (take l.event-index l.events));
  bound : l.dropped ≤ l.event-index;
}
