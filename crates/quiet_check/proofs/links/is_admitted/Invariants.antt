use Rattle.std.proofs.Common.{◌≡◌, take, reverse}
use Rattle.history_model.specs.Messages.{was_admitted}
use Rattle.quiet_check.proofs.links.is_admitted.Given as goal

abbrev pub invariant-loop-event : goal.invariant-loop-event
invariant-loop-event l = l.admitted ≡ was_admitted l.from l.at l.number (reverse (take l.event-index l.events))
