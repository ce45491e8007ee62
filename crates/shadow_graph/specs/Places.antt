-- The places of a graph, and the edges from each and to each.
use Rattle.std.specs.Prelude.{◌≡◌, ◌<◌, ◌↔◌, ℕ, true, false, List, length, map, nat_eq, slice_index_or}
use Rattle.std.specs.List.{IsDistinct}
use Rattle.crgc_ids.specs.Actor.{Actor}
use Rattle.crgc_ids.specs.Members.{IsAmong}
use Rattle.edge_table.specs.Table.{edge_at, edges_from, edges_to, no_edge}
use Rattle.shadow_table.specs.Shadows.{blank, is_named, place_in, shadow_at}
use Rattle.shadow_graph.specs.Graph.{Graph}
use Rattle.shadow_rows.specs.Pairs.{edge_between, has_pair}
use Rattle.shadow_rows.specs.Tabled.{no_actor}

-- the actor at a place
abbrev pub actor_of : Graph → ℕ → Actor
actor_of g place = slice_index_or g.shadows.names place no_actor

-- the places of the targets of the edges from a place, in the order in which rows named the pairs
abbrev pub targets_of : Graph → ℕ → List ℕ
targets_of g place = map (λ number. (edge_at g.edges number).target) (edges_from g.edges.edges place)

-- the places of the owners of the edges to a place, in that order
abbrev pub owners_of : Graph → ℕ → List ℕ
owners_of g place = map (λ number. (edge_at g.edges number).owner) (edges_to g.edges.edges place)

-- each place is that of one actor; each pair that a row named is listed once at the place of its owner and once at that of its
-- target, and nothing else is; of another pair nothing is kept, and of another actor nothing is told; each number of an edge is
-- that of the pair at its ends, and each pair that a row named has one
pub record ArePlaced (g : Graph) : Type 0 where
  pub actor : (p : ℕ) → p < length g.shadows.names
      → (is_named g.shadows.names (actor_of g p) ≡ true) × (place_in g.shadows.names (actor_of g p) ≡ p)
  pub place : (a : Actor) → is_named g.shadows.names a ≡ true
      → (place_in g.shadows.names a < length g.shadows.names) × (actor_of g (place_in g.shadows.names a) ≡ a)
  pub unnamed : (a : Actor) → is_named g.shadows.names a ≡ false → shadow_at g.shadows a ≡ blank
  pub none : (b a : Actor) → has_pair g.edges.pairs b a ≡ false → edge_between g.edges b a ≡ no_edge
  pub named : (b a : Actor) → has_pair g.edges.pairs b a ≡ true
      → (is_named g.shadows.names b ≡ true) × (is_named g.shadows.names a ≡ true)
  pub targets : (p k : ℕ) → IsAmong k (targets_of g p) ↔ ((p < length g.shadows.names) × (k < length g.shadows.names)
      × (has_pair g.edges.pairs (actor_of g p) (actor_of g k) ≡ true))
  pub owners : (p k : ℕ) → IsAmong p (owners_of g k) ↔ ((p < length g.shadows.names) × (k < length g.shadows.names)
      × (has_pair g.edges.pairs (actor_of g p) (actor_of g k) ≡ true))
  pub targets_once : (p : ℕ) → IsDistinct nat_eq (targets_of g p)
  pub owners_once : (k : ℕ) → IsDistinct nat_eq (owners_of g k)
  pub numbered : (n : ℕ) → n < length g.edges.edges → (let e = edge_at g.edges n in (e.owner < length g.shadows.names)
      × (e.target < length g.shadows.names) × (edge_between g.edges (actor_of g e.owner) (actor_of g e.target) ≡ e))
  pub number : (p k : ℕ) → p < length g.shadows.names → k < length g.shadows.names
      → has_pair g.edges.pairs (actor_of g p) (actor_of g k) ≡ true
      → (n : ℕ) × (n < length g.edges.edges) × ((edge_at g.edges n).owner ≡ p) × ((edge_at g.edges n).target ≡ k)
