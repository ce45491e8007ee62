use Rattle.std.proofs.Common.{◌≡◌}
use Rattle.run_model.specs.Round.{each, flushed_on}
use Rattle.cluster_round.proofs.flushing.flush_all.Given as goal

abbrev pub invariant-loop-number : goal.invariant-loop-number
invariant-loop-number l = record {
  cluster : l.course.cluster ≡ l.fn.course.cluster;
  past : l.course.past ≡ each (flushed_on l.fn.course.cluster) l.number l.fn.course.past;
}
