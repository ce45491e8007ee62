-- How counts and the log stand for a fold: total and actor by actor, with 0 where nothing is known.
use Rattle.std.specs.Prelude.{◌≡◌, ◌+◌, ◌<◌, ◌-ℤ◌, ℕ, Bool, List, Some, None, pos}
use Rattle.crgc_ids.specs.Actor.{Actor}
use Rattle.history_model.specs.Cluster.{Cluster}
use Rattle.history_model.specs.Tally.{tally}
use Rattle.history_model.specs.Facts.{is_created, is_sent_to}
use Rattle.history_model.specs.Folds.{Fold}
use Rattle.history_model.specs.Graph.{admitted_count, carried_count, created_count, own_flags, received_count, released_count, told_count}
use Rattle.edge_table.specs.Table.{Edges}
use Rattle.shadow_table.specs.Shadows.{Shadows, flag_pair, shadow_at}
use Rattle.undo_log.specs.Told.{admitted_from, told_by}
use Rattle.undo_log.specs.declared.corrections.Correction.{Correction}
use Rattle.shadow_rows.specs.Pairs.{edge_between}
use Rattle.history_model.specs.MoreFolded as folds

-- the counts are those of the fold, where these nodes are taken as lost
pub record CountsFold (cl : Cluster) (lost : ℕ → Bool) (f : Fold) (shadows : Shadows) (edges : Edges) : Type 0 where
  pub received : (a : Actor) → (shadow_at shadows a).received ≡ received_count cl f a
  pub told : (a : Actor) → (shadow_at shadows a).told ≡ told_count cl lost f a
  pub admitted : (a : Actor) → (shadow_at shadows a).admitted ≡ admitted_count cl lost f a
  pub flags : (a : Actor) → (shadow_at shadows a).flags ≡ flag_pair (own_flags f a)
  pub count : (b a : Actor) → (edge_between edges b a).count
      ≡ pos (created_count cl lost f b a + carried_count cl lost f b a) -ℤ pos (released_count cl f b a)

-- the log has, for each node of the cluster, what it told and what others admitted from it
pub record LogsFold (cl : Cluster) (f : Fold) (log : List (List Correction)) : Type 0 where
  pub told : (n : ℕ) → n < cl.nodes → (a : Actor) → told_by log n None a ≡ tally (is_sent_to a) (folds.told_by n f)
  pub created : (n : ℕ) → n < cl.nodes → (b a : Actor) → told_by log n (Some b) a ≡ tally (is_created b a) (folds.told_by n f)
  pub admitted : (n : ℕ) → n < cl.nodes → (a : Actor)
      → admitted_from log n None a ≡ tally (is_sent_to a) (folds.admitted_from cl n f)
  pub carried : (n : ℕ) → n < cl.nodes → (b a : Actor)
      → admitted_from log n (Some b) a ≡ tally (is_created b a) (folds.admitted_from cl n f)
