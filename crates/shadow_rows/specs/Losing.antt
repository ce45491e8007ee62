-- What becomes of the counts where more nodes are lost than before.
use Rattle.std.specs.Prelude.{◌≡◌, ◌+◌, ◌*◌, ◌<◌, ◌≤◌, ◌-ℤ◌, ◌&&◌, ◌||◌, not, ℕ, Bool, true, List, count_by, nat_lt, take}
use Rattle.crgc_ids.specs.Actor.{Actor}
use Rattle.crgc_ids.specs.Members.{IsPart}
use Rattle.crgc_ids.specs.Nodes.{has_node, nodes_below}
use Rattle.history_model.specs.Cluster.{Cluster}
use Rattle.history_model.specs.Folds.{Fold}
use Rattle.edge_table.specs.Table.{Edges}
use Rattle.shadow_table.specs.Shadows.{Shadows, shadow_at}
use Rattle.undo_log.specs.declared.corrections.Correction.{Correction}
use Rattle.shadow_rows.specs.Pairs.{IsWithin, edge_between}
use Rattle.shadow_rows.specs.Folded.{CountsFold, LogsFold}

-- the node is lost now and was not before
abbrev pub is_newly_lost : List ℕ → List ℕ → ℕ → Bool
is_newly_lost before after k = has_node after k && not (has_node before k)

-- how many of the nodes below n, of 16 at most, are
abbrev pub gain_before : List ℕ → List ℕ → ℕ → ℕ
gain_before before after n = count_by (is_newly_lost before after) (take n (nodes_below 16))

-- the nodes lost before, and those below n that are lost now
abbrev pub lost_so_far : List ℕ → List ℕ → ℕ → ℕ → Bool
lost_so_far before after n k = has_node before k || (nat_lt k n && has_node after k)

-- counts that stand for a fold with the first nodes lost stand for it with the second ones lost, where these are nodes of the
-- cluster and the first ones are among them
abbrev pub LosesNodes : List (List Correction) → List ℕ → List ℕ → Shadows → Shadows → Edges → Edges → Type 0
LosesNodes log before after s t e f =
    (cl : Cluster) (fold : Fold) → cl.nodes ≤ 16 → IsPart before after → ((k : ℕ) → has_node after k ≡ true → k < cl.nodes)
    → LogsFold cl fold log → CountsFold cl (has_node before) fold s e → CountsFold cl (has_node after) fold t f

-- what so many corrections, each of less than 2^56, can change
pub record Corrects (gain : ℕ) (s t : Shadows) (e f : Edges) : Type 0 where
  pub received : (a : Actor) → (shadow_at t a).received ≡ (shadow_at s a).received
  pub told : (a : Actor) → (shadow_at t a).told ≤ (shadow_at s a).told
  pub admitted : (a : Actor) → (shadow_at t a).admitted ≤ (shadow_at s a).admitted + gain * 72057594037927936
  pub count : (b a : Actor) → IsWithin (gain * 72057594037927936) ((edge_between f b a).count -ℤ (edge_between e b a).count)
  pub dropped : (a : Actor) → (shadow_at t a).dropped ≡ (shadow_at s a).dropped
