use Rattle.std.proofs.Common.{◌≡◌, ◌<◌, true, ℕ}
use Rattle.crgc_ids.specs.Nodes.{has_node}
use Rattle.history_model.specs.Cluster.{Cluster}
use Rattle.history_model.specs.Folds.{Fold}
use Rattle.shadow_rows.specs.Losing.{Corrects, gain_before, lost_so_far}
use Rattle.shadow_rows.specs.Pairs.{KeepsEnds}
use Rattle.shadow_rows.specs.Folded.{CountsFold, LogsFold}
use Rattle.shadow_rows.proofs.settle.settle_lost.Given as goal

abbrev pub invariant-loop-number : goal.invariant-loop-number
invariant-loop-number l = record {
  counts : (cl : Cluster) (fold : Fold) → ((k : ℕ) → has_node l.after k ≡ true → k < cl.nodes) → LogsFold cl fold l.log
      → CountsFold cl (has_node l.before) fold l.initial.shadows l.initial.edges → CountsFold cl (lost_so_far l.before l.after l.number) fold l.shadows l.edges;
  corrects : Corrects (gain_before l.before l.after l.number) l.initial.shadows l.shadows l.initial.edges l.edges;
  names : l.shadows.names ≡ l.initial.shadows.names;
  ends : KeepsEnds l.initial.edges l.edges;
}
