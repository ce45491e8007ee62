use Rattle.std.proofs.Common.{◌≡◌, ◌-◌}
use Rattle.cluster_round.proofs.HandLemmas.{IsHandedUpTo}
use Rattle.cluster_round.proofs.handing.hand_numbers.Given as goal

abbrev pub invariant-loop-number : goal.invariant-loop-number
invariant-loop-number l = record {
  cluster : l.course.cluster ≡ l.fn.course.cluster;
  handed : IsHandedUpTo l.fn.course.cluster l.fn.to l.fn.origin l.fn.course.past l.course.past l.fn.end l.number;
}

abbrev pub decreases-loop-number : goal.decreases-loop-number
decreases-loop-number l = l.fn.end - l.number
