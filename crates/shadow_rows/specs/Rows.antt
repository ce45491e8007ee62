-- What rows add to shadows, edges and the log, what a lost node takes back, and what is kept of the parts.
use Rattle.std.specs.Prelude.{◌≡◌, ◌==◌, ◌+◌, ◌<◌, ◌≤◌, ◌+ℤ◌, ◌-ℤ◌, ◌||◌, if◌then◌else◌, ℕ, Bool, true, false, List, Option, Some, None, pos}
use Rattle.std.specs.List.{list_any}
use Rattle.std.specs.Option.{option_or}
use Rattle.crgc_ids.specs.Actor.{Actor, same_actor}
use Rattle.history_model.specs.declared.records.Bulletin.{Bulletin}
use Rattle.history_model.specs.MoreFolded.{link_rows, own_rows}
use Rattle.history_model.specs.Ledgers.{Ledger, actor_total, pair_total, received_total, row_flags}
use Rattle.edge_table.specs.Table.{Edges}
use Rattle.shadow_table.specs.Shadows.{Shadows, flag_pair, is_named, shadow_at, with_admitted, without_told}
use Rattle.shadow_table.specs.declared.table.Shadow.{Shadow}
use Rattle.undo_log.specs.Noted.{noted_count}
use Rattle.undo_log.specs.Told.{admitted_from, told_by}
use Rattle.undo_log.specs.declared.corrections.Correction.{Correction}
use Rattle.shadow_rows.specs.Pairs.{IsWithin, edge_between}
use Rattle.shadow_rows.specs.Settled.{IsCovered}

-- ---- what rows add

-- the old names and those of the rows
abbrev pub NamesRows : List Actor → List Actor → List Actor → Type 0
NamesRows old new names = (a : Actor) → is_named new a ≡ (is_named old a || list_any (same_actor a) names)

-- the shadow with the rows of its own node's Delta, of which the sends count or not, and with those of a window
abbrev pub counted_shadow : ℕ → Bool → Ledger → Ledger → Actor → Shadow → Shadow
counted_shadow node counts own link a s = record s {
  received = s.received + received_total a own.states;
  told = s.told + (if counts then actor_total a own.sent else 0);
  admitted = s.admitted + actor_total a link.sent;
  flags = if a.node == node then option_or (flag_pair (row_flags a own.states)) s.flags else s.flags;
}

-- the counts with these rows; whether the sends and pairs of the node's own rows count is told
pub record AddsRows (node : ℕ) (counts : Bool) (own link : Ledger) (old new : Shadows) (was now : Edges) : Type 0 where
  pub shadows : (a : Actor) → shadow_at new a ≡ counted_shadow node counts own link a (shadow_at old a)
  pub count : (b a : Actor) → (edge_between now b a).count
      ≡ ((edge_between was b a).count +ℤ pos ((if counts then pair_total b a own.created else 0) + pair_total b a link.created))
      -ℤ pos (pair_total b a own.released)

-- the log with the bulletin: what its node told and what others admitted from each node grow by its rows
pub record AddsLog (node : ℕ) (b : Bulletin) (log log' : List (List Correction)) : Type 0 where
  pub told : (n : ℕ) (owner : Option Actor) (target : Actor) → told_by log' n owner target
      ≡ told_by log n owner target + (if n == node then noted_count owner target (own_rows b).sent (own_rows b).created else 0)
  pub admitted : (n : ℕ) (owner : Option Actor) (target : Actor) → admitted_from log' n owner target
      ≡ admitted_from log n owner target + noted_count owner target (link_rows (λ k. k == n) b).sent (link_rows (λ k. k == n) b).created

-- the log with the bulletin where bulletins are logged, and as it was where none is
pub record LogsIf (logs : Bool) (node : ℕ) (b : Bulletin) (log log' : List (List Correction)) : Type 0 where
  pub noted : logs ≡ true → AddsLog node b log log'
  pub same : logs ≡ false → log' ≡ log

-- where a node is lost, what it told is taken back, and what others admitted from it is put in
pub record Settles (node : ℕ) (log : List (List Correction)) (old new : Shadows) (was now : Edges) : Type 0 where
  pub shadows : (a : Actor) → shadow_at new a
      ≡ with_admitted (admitted_from log node None a) (without_told (told_by log node None a) (shadow_at old a))
  pub count : (b a : Actor) → (edge_between now b a).count
      ≡ ((edge_between was b a).count -ℤ pos (told_by log node (Some b) a)) +ℤ pos (admitted_from log node (Some b) a)

-- ---- what the parts keep

-- no count is near the end of its type
pub record AreSmall (shadows : Shadows) (edges : Edges) : Type 0 where
  pub received : (a : Actor) → (shadow_at shadows a).received ≤ 4611686018427387904
  pub told : (a : Actor) → (shadow_at shadows a).told ≤ 4611686018427387904
  pub admitted : (a : Actor) → (shadow_at shadows a).admitted ≤ 4611686018427387904
  pub count : (b a : Actor) → IsWithin 4611686018427387904 (edge_between edges b a).count

-- what the log counts is there
abbrev pub IsLogCovered : Shadows → Edges → List (List Correction) → Type 0
IsLogCovered shadows edges log =
    (n : ℕ) (owner : Option Actor) (target : Actor) → 0 < told_by log n owner target + admitted_from log n owner target
    → IsCovered shadows.names edges.pairs owner target
