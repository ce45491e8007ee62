-- The actors that hold references to an actor, by what is folded.
use Rattle.std.specs.Prelude.{◌≡◌, ◌&&◌, ◌↔◌, not, ℕ, Bool, true, List, map}
use Rattle.std.specs.List.{filter}
use Rattle.crgc_ids.specs.Actor.{Actor, IsActorBelow}
use Rattle.crgc_ids.specs.Members.{IsAmong}
use Rattle.crgc_ids.specs.Nodes.{has_node}
use Rattle.crgc_ids.specs.Rising.{IsRising}
use Rattle.edge_table.specs.Table.{is_positive}
use Rattle.shadow_graph.specs.Graph.{Graph, lost_in}
use Rattle.shadow_graph.specs.Places.{actor_of}
use Rattle.shadow_graph.specs.Seen.{seen_edge}

-- whether b, whose node is not lost, holds references to a
abbrev pub owns : Graph → Actor → Actor → Bool
owns g b a = not (has_node (lost_in g) b.node) && is_positive (seen_edge g b a)

-- the actors at these places that hold references to a
abbrev pub owners_at : Graph → Actor → List ℕ → List Actor
owners_at g a places = map (actor_of g) (filter (λ p. owns g (actor_of g p) a) places)

-- the owners of references to a, rising
pub record AreOwners (g : Graph) (a : Actor) (bs : List Actor) : Type 0 where
  pub rising : IsRising IsActorBelow bs
  pub owners : (b : Actor) → IsAmong b bs ↔ (owns g b a ≡ true)
