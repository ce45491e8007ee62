-- Every legal history is rightly collected, by the laws of the collector.
use Rattle.std.proofs.Common.{List, [], ◌∷◌, subst}
use Rattle.history_model.specs.declared.events.Event.{Event}
use Rattle.history_model.specs.declared.events.Event.TheVariants.{Sweep}
use Rattle.history_model.specs.Cluster.{Cluster}
use Rattle.history_model.specs.Legal.{IsLegal}
use Rattle.history_model.proofs.Basics.{legal-before}
use Rattle.history_model.proofs.Stability.{quiescent-stays}
use Rattle.history_model.proofs.Stopped.{quiet-stopped, stopped-quiescent, stopped-unused, stopping-quiescent}
use Rattle.history_model.proofs.Supervision.{stopped-children}
use Rattle.cluster_course.specs.Collected.{IsRightlyCollected}

pub legal-rightly_collected : (cl : Cluster) (h : List Event) → IsLegal cl h → IsRightlyCollected cl h
legal-rightly_collected cl h legal = record {
  sweeps_are_right = λ later p m is a stopped.
      stopping-quiescent cl m p a (legal-before cl later (Sweep m ∷ p) (subst (IsLegal cl) is legal)).1 stopped;
  stops_are_right = λ later p is a stopped q longer.
      quiescent-stays cl q p a longer (stopped-quiescent cl p a (legal-before cl later p (subst (IsLegal cl) is legal)) stopped);
  stopped_are_unused = λ later p is a stopped.
      stopped-unused cl p a (legal-before cl later p (subst (IsLegal cl) is legal)) stopped;
  children_are_stopped = λ two later p is a b stopped parent.
      stopped-children cl p two (legal-before cl later p (subst (IsLegal cl) is legal)) b a parent stopped;
  none_is_left = λ later p m is quiet a on_m quiescent.
      let swept = legal-before cl later (Sweep m ∷ p) (subst (IsLegal cl) is legal) in
      (quiet-stopped cl m p a swept quiet on_m).1 (quiescent-stays cl (Sweep m ∷ []) p a swept quiescent);
}
