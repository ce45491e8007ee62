use Rattle.std.proofs.Common.{◌≡◌, not, take, reverse}
use Rattle.history_model.specs.Streams.{is_blank, log}
use Rattle.quiet_check.proofs.logs.has_log.Given as goal

abbrev pub invariant-loop-i : goal.invariant-loop-i
invariant-loop-i l = l.logged ≡ not (is_blank (log l.cluster l.actor (reverse (take l.i l.events))))
