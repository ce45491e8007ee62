use Rattle.std.proofs.Common.{◌≡◌}
use Rattle.run_model.specs.Round.{each}
use Rattle.cluster_round.specs.Steps.{handed_to}
use Rattle.cluster_round.proofs.handing.hand_all.Given as goal

abbrev pub invariant-loop-number : goal.invariant-loop-number
invariant-loop-number l = record {
  cluster : l.course.cluster ≡ l.fn.course.cluster;
  past : l.course.past ≡ each (handed_to l.fn.course.cluster) l.number l.fn.course.past;
}
