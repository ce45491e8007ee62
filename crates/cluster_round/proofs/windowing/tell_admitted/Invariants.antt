use Rattle.std.proofs.Common.{◌≡◌}
use Rattle.run_model.specs.Round.{each}
use Rattle.cluster_round.specs.Steps.{windows_at}
use Rattle.cluster_round.proofs.windowing.tell_admitted.Given as goal

abbrev pub invariant-loop-number : goal.invariant-loop-number
invariant-loop-number l = record {
  cluster : l.course.cluster ≡ l.fn.course.cluster;
  past : l.course.past ≡ each (windows_at l.fn.course.cluster) l.number l.fn.course.past;
}
