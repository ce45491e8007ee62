-- A shadow graph as a graph of places, in which marks go from pseudoroots along positive edges.
use Rattle.std.specs.Prelude.{◌≡◌, ◌==◌, ◌+◌, ◌&&◌, ◌||◌, not, if◌then◌else◌, ℕ, Bool, List, [], true, Option, None, Some, length, nat_lt}
use Rattle.crgc_ids.specs.Actor.{Actor}
use Rattle.crgc_ids.specs.Nodes.{has_node}
use Rattle.edge_table.specs.Table.{edge_at, is_positive}
use Rattle.place_marks.specs.Graph as places
use Rattle.shadow_table.specs.Shadows.{shadow_at}
use Rattle.shadow_graph.specs.Graph.{Graph, lost_in}
use Rattle.shadow_graph.specs.Pairs.{edge_between}
use Rattle.shadow_graph.specs.Places.{actor_of}
use Rattle.shadow_graph.specs.Seen.{is_dropped}

-- whether a sweep leaves the actor out: it was dropped, or its node is lost
abbrev pub is_out : Graph → Actor → Bool
is_out g a = is_dropped g a || has_node (lost_in g) a.node

-- these are the lost nodes of the graph, if it has any
abbrev pub AreLost : Graph → Option (List ℕ) → Type 0
AreLost g None = lost_in g ≡ []
AreLost g (Some lost) = lost ≡ lost_in g

-- whether an actor with these flags in its own entry may act of itself; one without an entry may
abbrev pub may_act : Option (Bool × Bool) → Bool
may_act None = true
may_act (Some flags) = flags.0 || flags.1

-- whether the actor is a pseudoroot: it may act of itself, or its balance is not 0
abbrev pub is_pseudoroot : Graph → Actor → Bool
is_pseudoroot g a = let s = shadow_at g.shadows a in may_act s.flags || not (s.received == s.told + s.admitted)

-- whether the actor's place is a start
abbrev pub is_start : Graph → Actor → Bool
is_start g a = not (is_out g a) && is_pseudoroot g a

-- whether marks go along the edge: it is positive, and its target is not left out
abbrev pub leads : Graph → Actor → Actor → Bool
leads g b a = not (is_out g a) && is_positive (edge_between g.edges b a)

-- whether there is an edge with this number, and marks go along it
abbrev pub goes_along : Graph → ℕ → Bool
goes_along g n = let e = edge_at g.edges n in nat_lt n (length g.edges.edges) && leads g (actor_of g e.owner) (actor_of g e.target)

-- the places of the owner and of the target of the edge with this number, where marks go along it
abbrev pub step_of : Graph → ℕ → Option (ℕ × ℕ)
step_of g n = let e = edge_at g.edges n in if goes_along g n then Some (e.owner, e.target) else None

-- the graph of places
abbrev pub place_graph : Graph → places.Graph
place_graph g = record {
  places = length g.shadows.names;
  is_start = λ p. is_start g (actor_of g p);
  step = step_of g;
}
