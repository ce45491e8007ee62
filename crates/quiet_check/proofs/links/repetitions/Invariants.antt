use Rattle.std.proofs.Common.{◌≡◌, ◌≤◌, take, reverse}
use Rattle.history_model.specs.Tally.{tally}
use Rattle.history_model.specs.Messages.{is_repeat}
use Rattle.quiet_check.proofs.links.repetitions.Given as goal

abbrev pub invariant-loop-event : goal.invariant-loop-event
invariant-loop-event l = record {
  value : l.count ≡ tally (is_repeat l.from l.at l.number) (reverse (take l.event-index l.events));
  bound : l.count ≤ l.event-index;
}
