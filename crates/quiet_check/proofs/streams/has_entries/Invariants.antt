use Rattle.std.proofs.Common.{◌≡◌, take, reverse}
use Rattle.std.specs.List.{list_any}
use Rattle.quiet_check.specs.Plain.{leaves_entry}
use Rattle.quiet_check.proofs.streams.has_entries.Given as goal

abbrev pub invariant-loop-event : goal.invariant-loop-event
invariant-loop-event l = l.left ≡ list_any (leaves_entry l.cluster (reverse l.events)) (reverse (take l.event-index l.events))
