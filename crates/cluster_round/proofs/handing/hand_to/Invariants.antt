use Rattle.std.proofs.Common.{◌≡◌}
use Rattle.run_model.specs.Round.{each, handed_from}
use Rattle.cluster_round.proofs.handing.hand_to.Given as goal

abbrev pub invariant-loop-number : goal.invariant-loop-number
invariant-loop-number l = record {
  cluster : l.course.cluster ≡ l.fn.course.cluster;
  past : l.course.past ≡ each (handed_from l.fn.course.cluster l.fn.to) l.number l.fn.course.past;
}
