use Rattle.std.proofs.Common.{◌≡◌, not, take, reverse}
use Rattle.history_model.specs.Streams.{is_blank, queue}
use Rattle.quiet_check.proofs.streams.has_queue.Given as goal

abbrev pub invariant-loop-i : goal.invariant-loop-i
invariant-loop-i l = l.queued ≡ not (is_blank (queue l.cluster l.node (reverse (take l.i l.events))))
