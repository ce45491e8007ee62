use Rattle.std.proofs.Common.{◌≡◌, ◌≤◌, take, reverse}
use Rattle.history_model.specs.Tally.{tally}
use Rattle.quiet_check.specs.Plain.{is_told_by}
use Rattle.quiet_check.proofs.streams.told_by.Given as goal

abbrev pub invariant-loop-event : goal.invariant-loop-event
invariant-loop-event l = record {
  value : l.told ≡ tally (is_told_by l.node) (reverse (take l.event-index l.events));
  bound : l.told ≤ l.event-index;
}
