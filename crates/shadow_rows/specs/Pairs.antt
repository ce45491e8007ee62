-- Edges by the pair of their owner and their target.
use Rattle.std.specs.Prelude.{◌≡◌, ◌≤ℤ◌, if◌then◌else◌, ℕ, ℤ, Bool, List, length, neg_ℤ, pos, slice_index_or}
use Rattle.std.specs.List.{list_any, position_or_len}
use Rattle.crgc_ids.specs.Actor.{Actor}
use Rattle.edge_table.specs.Table.{Edges, edge_at, no_edge, same_pair}
use Rattle.edge_table.specs.declared.table.Edge.{Edge}

-- whether a row named the pair
abbrev pub has_pair : List (Actor × Actor) → Actor → Actor → Bool
has_pair pairs owner target = list_any (same_pair (owner, target)) pairs

-- what is kept of the pair, or of no edge where no row named it
abbrev pub edge_between : Edges → Actor → Actor → Edge
edge_between t owner target = slice_index_or t.edges (position_or_len (same_pair (owner, target)) t.pairs) no_edge

-- a count that is no further from 0 than this
abbrev pub IsWithin : ℕ → ℤ → Type 0
IsWithin n count = (neg_ℤ (pos n) ≤ℤ count) × (count ≤ℤ pos n)

-- ---- what a call changes

-- no edge is added, and each keeps its ends
pub record KeepsEnds (old new : Edges) : Type 0 where
  pub pairs : new.pairs ≡ old.pairs
  pub places : new.places ≡ old.places
  pub long : length new.edges ≡ length old.edges
  pub owner : (k : ℕ) → (edge_at new k).owner ≡ (edge_at old k).owner
  pub target : (k : ℕ) → (edge_at new k).target ≡ (edge_at old k).target

-- the edge between two actors changes so, and no other
pub record ChangesEdge (old new : Edges) (owner target : Actor) (change : Edge → Edge) : Type 0 where
  pub ends : KeepsEnds old new
  pub edges : (b a : Actor) → edge_between new b a
      ≡ (if same_pair (b, a) (owner, target) then change (edge_between old b a) else edge_between old b a)

-- each edge changes so
pub record ChangesEdges (old new : Edges) (change : Actor → Actor → Edge → Edge) : Type 0 where
  pub ends : KeepsEnds old new
  pub edges : (b a : Actor) → edge_between new b a ≡ change b a (edge_between old b a)
