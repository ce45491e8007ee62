-- Which actors are marked, and that those are the marks of a sweep.
use Rattle.std.specs.Prelude.{◌≡◌, ◌<◌, ◌↔◌, ℕ, Bool, true, false, List}
use Rattle.crgc_ids.specs.Actor.{Actor}
use Rattle.crgc_ids.specs.Members.{IsAmong}
use Rattle.crgc_ids.specs.Nodes.{has_node}
use Rattle.history_model.specs.Cluster.{Cluster}
use Rattle.history_model.specs.Compaction.{IsMarked, compacted_dead}
use Rattle.history_model.specs.Folds.{Fold, is_lost}
use Rattle.place_marks.specs.Graph.{IsReached}
use Rattle.place_marks.specs.Marks as places
use Rattle.place_marks.specs.Marks.{Marking}
use Rattle.shadow_table.specs.Shadows.{is_named, place_in}
use Rattle.shadow_graph.specs.Graph.{Graph, lost_in}
use Rattle.shadow_graph.specs.Places.{actor_of}
use Rattle.shadow_graph.specs.Seen.{is_dropped, is_known}
use Rattle.shadow_graph.specs.Stands.{IsGraphOf}
use Rattle.pseudoroot_trace.specs.Trace.{place_graph}

-- the actors that are marked, and for how many there is room
pub record MarkedActors : Type 0 where
  pub room : ℕ
  pub actors : List Actor

-- whether the actor is marked
abbrev pub is_marked : MarkedActors → Actor → Bool
is_marked m a = is_named m.actors a

-- the actor was named, and marks reach its place
abbrev pub IsReachedIn : Graph → Actor → Type 0
IsReachedIn g a = (is_named g.shadows.names a ≡ true) × IsReached (place_graph g) (place_in g.shadows.names a)

-- the actors at the marked places below the number are those of the list
abbrev pub AreNamedBelow : Graph → Marking → ℕ → List Actor → Type 0
AreNamedBelow g marks n actors =
    (a : Actor) → IsAmong a actors ↔ ((p : ℕ) × (p < n) × (places.is_marked marks p ≡ true) × (actor_of g p ≡ a))

-- at each fold that the graph stands for, exactly whom the sweep marks that leaves out the dropped passes the test; and its dead
-- are the actors that are known, whose node is not lost, and that do not pass
pub record IsSweepBy (g : Graph) (passes : Actor → Bool) : Type 0 where
  pub marked : (cl : Cluster) (f : Fold) → IsGraphOf cl f g → (a : Actor)
      → (passes a ≡ true) ↔ IsMarked cl (is_lost cl f) (is_dropped g) f a
  pub dead : (cl : Cluster) (f : Fold) → IsGraphOf cl f g → (a : Actor)
      → IsAmong a (compacted_dead cl (is_lost cl f) (is_dropped g) f)
      ↔ ((is_known g a ≡ true) × (has_node (lost_in g) a.node ≡ false) × (passes a ≡ false))

-- the marks are those of the sweep
abbrev pub IsSweepOf : Graph → MarkedActors → Type 0
IsSweepOf g m = IsSweepBy g (is_marked m)
