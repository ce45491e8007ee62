use Rattle.std.proofs.Common.{◌≡◌}
use Rattle.history_model.specs.declared.events.Event.TheVariants.{Window}
use Rattle.run_model.specs.Round.{each, tried}
use Rattle.cluster_round.proofs.windowing.tell_admitted_at.Given as goal

abbrev pub invariant-loop-number : goal.invariant-loop-number
invariant-loop-number l = record {
  cluster : l.course.cluster ≡ l.fn.course.cluster;
  past : l.course.past ≡ each (λ s. tried l.fn.course.cluster (Window l.fn.at s)) l.number l.fn.course.past;
}
