use Rattle.std.proofs.Common.{◌≡◌}
use Rattle.history_model.specs.declared.events.Event.TheVariants.{Sweep}
use Rattle.run_model.specs.Round.{each, tried}
use Rattle.cluster_round.proofs.sweeping.sweep_all.Given as goal

abbrev pub invariant-loop-number : goal.invariant-loop-number
invariant-loop-number l = record {
  cluster : l.course.cluster ≡ l.fn.course.cluster;
  past : l.course.past ≡ each (λ m. tried l.fn.course.cluster (Sweep m)) l.number l.fn.course.past;
}
