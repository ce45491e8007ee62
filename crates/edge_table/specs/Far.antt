-- How edges are found: they are listed near, or an ordered map has a number for their places.
use Rattle.std.specs.Prelude.{◌≡◌, ◌≢◌, ◌==◌, ◌&&◌, ◌<◌, ◌≤◌, ◌↔◌, ◌⊎◌, ℕ, Bool, false, cond, List, Option, Some, length, slice_index_or, take}
use Rattle.std.specs.Map.{lookup}
use Rattle.std.specs.Option.{unwrap_or}
use Rattle.crgc_ids.specs.Members.{IsAmong}
use Rattle.edge_table.specs.Table.{IsBetween, edges_from, edges_to, no_edge}
use Rattle.edge_table.specs.declared.near.TheConstants.{NEAR}
use Rattle.edge_table.specs.declared.table.Edge.{Edge}

-- the entries of the map: places of an owner and a target, and a number
abbrev pub Entries : Type 0
Entries = List ((ℕ × ℕ) × ℕ)

abbrev pub same_places : ℕ × ℕ → ℕ × ℕ → Bool
same_places p q = (p.0 == q.0) && (p.1 == q.1)

-- what the map has for the places of an owner and a target
abbrev pub far_number : Entries → ℕ → ℕ → Option ℕ
far_number entries owner target = lookup (same_places (owner, target)) entries

-- it has the same for other places
abbrev pub KeepsOthers : Entries → Entries → ℕ → ℕ → Type 0
KeepsOthers old new owner target = (p q : ℕ) → same_places (owner, target) (p, q) ≡ false → far_number new p q ≡ far_number old p q

-- an edge with this number is added: where it is far, its places have the number, unless they had one before
pub record IsFarAdded (old new : Entries) (owner target number : ℕ) (is_far : Bool) : Type 0 where
  pub here : far_number new owner target ≡ cond is_far (Some (unwrap_or (far_number old owner target) number)) (far_number old owner target)
  pub others : KeepsOthers old new owner target

-- the edge with this number is taken away: its places have the number that they had before, unless it was this one
pub record IsFarRemoved (old new : Entries) (owner target number : ℕ) : Type 0 where
  pub here : (n : ℕ) → (far_number new owner target ≡ Some n) ↔ ((far_number old owner target ≡ Some n) × (n ≢ number))
  pub others : KeepsOthers old new owner target

-- an edge is listed near: its number is one of the first from its owner's place, or one of the first to its target's
abbrev pub IsNear : List Edge → ℕ → Type 0
IsNear edges n =
    IsAmong n (take NEAR (edges_from edges (slice_index_or edges n no_edge).owner))
    ⊎ IsAmong n (take NEAR (edges_to edges (slice_index_or edges n no_edge).target))

-- the map has the number of this edge, or of an earlier one, for its places
abbrev pub IsFar : Entries → List Edge → ℕ → Type 0
IsFar entries edges n =
    (m : ℕ) × (far_number entries (slice_index_or edges n no_edge).owner (slice_index_or edges n no_edge).target ≡ Some m) × (m ≤ n)

-- what the map has for two places is the number of an edge between them, and each edge is listed near or far
pub record AreFound (entries : Entries) (edges : List Edge) : Type 0 where
  pub right : (p q n : ℕ) → far_number entries p q ≡ Some n → IsBetween edges n p q
  pub found : (n : ℕ) → n < length edges → IsNear edges n ⊎ IsFar entries edges n
