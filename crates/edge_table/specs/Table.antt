-- What contracts see of a table of edges.
use Rattle.std.specs.Prelude.{◌≡◌, ◌&&◌, ◌<◌, ◌^◌, ◌+ℤ◌, ◌-ℤ◌, ◌↔◌, ℕ, Bool, true, List, Option, Some, int_lt, length, map, pos, position, slice_index_or, slice_set}
use Rattle.std.specs.List.{AllByRecursion, IsDistinct}
use Rattle.crgc_ids.specs.Actor.{Actor, same_actor}
use Rattle.crgc_ids.specs.Members.{IsAmong}
use Rattle.edge_table.specs.Ends.{PlaceEnds, no_ends, numbers_of}
use Rattle.edge_table.specs.Partition.{AreParted, Kept}
use Rattle.edge_table.specs.declared.table.Edge.{Edge}

-- the pairs of an owner and a target in the order in which they were added, what is kept of each, and how many places there are
pub record Edges : Type 0 where
  pub pairs : List (Actor × Actor)
  pub edges : List Edge
  pub places : ℕ

abbrev pub same_pair : Actor × Actor → Actor × Actor → Bool
same_pair p q = same_actor p.0 q.0 && same_actor p.1 q.1

-- the number of the edge from an owner to a target
abbrev pub number_at : Edges → Actor → Actor → Option ℕ
number_at t owner target = position (same_pair (owner, target)) t.pairs

abbrev pub no_edge : Edge
no_edge = record { owner = 0; target = 0; count = pos 0 }

-- what is kept of the edge with this number
abbrev pub edge_at : Edges → ℕ → Edge
edge_at t number = slice_index_or t.edges number no_edge

-- the edge with this number leads from the one place to the other
abbrev pub IsBetween : List Edge → ℕ → ℕ → ℕ → Type 0
IsBetween edges number from to =
    (number < length edges) × ((slice_index_or edges number no_edge).owner ≡ from) × ((slice_index_or edges number no_edge).target ≡ to)

-- the edge from an owner to a target, if there is one, is the one that leads from the one place to the other
abbrev pub HasEnds : Edges → Actor → Actor → ℕ → ℕ → Type 0
HasEnds t owner target owner_place target_place =
    (n : ℕ) → (number_at t owner target ≡ Some n) ↔ IsBetween t.edges n owner_place target_place

-- the numbers of the edges whose owner, and of those whose target, has this place
abbrev pub edges_from : List Edge → ℕ → List ℕ
edges_from edges place = numbers_of place 0 (map (λ e. e.owner) edges)

abbrev pub edges_to : List Edge → ℕ → List ℕ
edges_to edges place = numbers_of place 0 (map (λ e. e.target) edges)

-- each of these numbers, with the other end of its edge before it
abbrev pub ends_of : (Edge → ℕ) → List Edge → List ℕ → List (ℕ × ℕ)
ends_of other edges numbers = map (λ n. (other (slice_index_or edges n no_edge), n)) numbers

-- the edges whose owner, and those whose target, has this place, of each the place of its other end and its number
abbrev pub ends_from : List Edge → ℕ → List (ℕ × ℕ)
ends_from edges place = ends_of (λ e. e.target) edges (edges_from edges place)

abbrev pub ends_to : List Edge → ℕ → List (ℕ × ℕ)
ends_to edges place = ends_of (λ e. e.owner) edges (edges_to edges place)

-- an edge with so many references more that were given, or released
abbrev pub with_given : ℕ → Edge → Edge
with_given n e = record e { count = e.count +ℤ pos n }

abbrev pub with_released : ℕ → Edge → Edge
with_released n e = record e { count = e.count -ℤ pos n }

-- whether the edge has a count above 0
abbrev pub is_positive : Edge → Bool
is_positive e = int_lt (pos 0) e.count

-- whether the edge with this number is
abbrev pub is_positive_at : List Edge → ℕ → Bool
is_positive_at edges n = is_positive (slice_index_or edges n no_edge)

-- each positive edge that has this place at the end is one of these, and each of them is an edge with this end: the place of its
-- other end and its number
pub record ArePositive (end other : Edge → ℕ) (edges : List Edge) (place : ℕ) (ends : List (ℕ × ℕ)) : Type 0 where
  pub all : (n : ℕ) → n < length edges → end (slice_index_or edges n no_edge) ≡ place → is_positive_at edges n ≡ true
      → IsAmong (other (slice_index_or edges n no_edge), n) ends
  pub alone : (p n : ℕ) → IsAmong (p, n) ends
      → (n < length edges) × (end (slice_index_or edges n no_edge) ≡ place) × (other (slice_index_or edges n no_edge) ≡ p)

-- the edge with this number is changed, and no other
abbrev pub with_edge : Edges → ℕ → Edge → Edges
with_edge t number edge = record t { edges = slice_set t.edges number edge }

-- how pairs, edges and the lists by place stand to each other
pub record IsTable (pairs : List (Actor × Actor)) (edges : List Edge) (places : List PlaceEnds) : Type 0 where
  pub long : length edges ≡ length pairs
  pub few_edges : length edges < 2 ^ 32
  pub few_places : length places < 2 ^ 32
  pub distinct : IsDistinct same_pair pairs
  pub ends : AllByRecursion (λ e. (e.owner < length places) × (e.target < length places)) edges
  pub from : (p : ℕ) → (slice_index_or places p no_ends).from ≡ ends_from edges p
  pub to : (p : ℕ) → (slice_index_or places p no_ends).to ≡ ends_to edges p

-- what is kept of the places from which, and to which, many edges lead is right
pub record ArePositiveKept (edges : List Edge) (owners targets : Kept) : Type 0 where
  pub from : AreParted (ends_from edges) (is_positive_at edges) owners
  pub to : AreParted (ends_to edges) (is_positive_at edges) targets
