use Rattle.std.proofs.Common.{◌≡◌, take, reverse}
use Rattle.history_model.specs.Messages.{is_closed}
use Rattle.quiet_check.proofs.nodes.is_link_closed.Given as goal

abbrev pub invariant-loop-event : goal.invariant-loop-event
invariant-loop-event l = l.closed ≡ is_closed l.from l.at (reverse (take l.event-index l.events))
