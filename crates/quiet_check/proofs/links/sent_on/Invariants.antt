use Rattle.std.proofs.Common.{◌≡◌, ◌≤◌, take, reverse}
use Rattle.history_model.specs.Tally.{tally}
use Rattle.quiet_check.specs.Plain.{is_send_on}
use Rattle.quiet_check.proofs.links.sent_on.Given as goal

abbrev pub invariant-loop-event : goal.invariant-loop-event
invariant-loop-event l = record {
  value : l.count ≡ tally (is_send_on l.from l.at) (reverse (take l.event-index l.events));
  bound : l.count ≤ l.event-index;
}
