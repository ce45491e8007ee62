use Rattle.std.proofs.Common.{◌≡◌, take, reverse}
use Rattle.history_model.specs.Folds.{was_handed}
use Rattle.quiet_check.proofs.streams.was_handed_to.Given as goal

abbrev pub invariant-loop-event : goal.invariant-loop-event
invariant-loop-event l = l.handed ≡ was_handed l.to l.origin l.number (reverse (take l.event-index l.events))
