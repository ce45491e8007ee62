use Rattle.std.proofs.Common.{◌≡◌, take, reverse}
use Rattle.history_model.specs.Streams.{are_flags, flushed_flags}
use Rattle.quiet_check.proofs.logs.was_flushed_as.Given as goal

abbrev pub invariant-loop-i : goal.invariant-loop-i
invariant-loop-i l =
    l.same ≡ are_flags (flushed_flags l.actor (reverse (take l.i l.events))) (record { busy = l.busy; root = l.root })
