use Rattle.std.proofs.Common.{◌≡◌, take, reverse}
use Rattle.std.specs.List.{list_any}
use Rattle.history_model.specs.State.{is_crash}
use Rattle.quiet_check.proofs.nodes.has_crashed.Given as goal

abbrev pub invariant-loop-event : goal.invariant-loop-event
invariant-loop-event l = l.crashed ≡ list_any (is_crash l.node) (reverse (take l.event-index l.events))
