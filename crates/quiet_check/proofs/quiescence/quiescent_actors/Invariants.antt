use Rattle.std.proofs.Common.{◌≡◌, reverse}
use Rattle.crgc_ids.specs.Greatest.{prune}
use Rattle.quiet_check.specs.Plain.{is_held_within, plain_quiescent}
use Rattle.quiet_check.proofs.quiescence.quiescent_actors.Given as goal

abbrev pub invariant-loop-turns : goal.invariant-loop-turns
invariant-loop-turns l =
    prune (is_held_within l.cluster (reverse l.events)) l.turns l.left.items ≡ plain_quiescent l.cluster (reverse l.events)

abbrev pub decreases-loop-turns : goal.decreases-loop-turns
decreases-loop-turns l = l.turns
