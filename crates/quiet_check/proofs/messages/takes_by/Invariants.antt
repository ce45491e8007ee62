use Rattle.std.proofs.Common.{◌≡◌, ◌≤◌, take, reverse}
use Rattle.history_model.specs.Messages.{takes}
use Rattle.quiet_check.proofs.messages.takes_by.Given as goal

abbrev pub invariant-loop-event : goal.invariant-loop-event
invariant-loop-event l = record {
  value : l.count ≡ takes l.actor (reverse (take l.event-index l.events));
  bound : l.count ≤ l.event-index;
}
