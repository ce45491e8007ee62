-- How a collector changes as it sweeps, and as it drops whom it stopped.
use Rattle.std.specs.Prelude.{◌≡◌, ◌==◌, ◌&&◌, ◌||◌, not, ℕ, Bool, List, map}
use Rattle.std.specs.List.{filter, list_any}
use Rattle.crgc_ids.specs.Actor.{Actor}
use Rattle.crgc_ids.specs.Nodes.{has_node}
use Rattle.history_model.specs.declared.records.Stop.{Stop}
use Rattle.history_model.specs.declared.records.Verdict.{Verdict}
use Rattle.history_model.specs.Cluster.{Cluster}
use Rattle.history_model.specs.Compaction.{AreStopped, IsCompactedVerdict}
use Rattle.history_model.specs.Folds.{Fold, is_lost}
use Rattle.history_model.specs.Graph.{holds_actor, rising_actors}
use Rattle.history_model.specs.Sweeps.{stop_of}
use Rattle.pseudoroot_trace.specs.Marked.{IsSweepBy}
use Rattle.shadow_graph.specs.Graph.{Graph, lost_in}
use Rattle.shadow_graph.specs.Seen.{is_dropped, is_known}
use Rattle.shadow_graph.specs.Stands.{IsGraphOf}
use Rattle.collector.specs.Collected.{Collected, flag_at, was_stopped}

-- whether the actor is known, not on a lost node, and not marked
abbrev pub is_unmarked : Graph → (Actor → Bool) → Actor → Bool
is_unmarked g marked a = is_known g a && (not (has_node (lost_in g) a.node) && not (marked a))

-- whether a sweep by the node stops the actor: it is the node's, was not stopped, and is not marked
abbrev pub falls : Graph → (Actor → Bool) → ℕ → List Bool → Actor → Bool
falls g marked node stopped a = (a.node == node) && (not (flag_at stopped a.serial) && is_unmarked g marked a)

-- the stops are those of the actors, at each fold that the graph stands for
abbrev pub AreStopsOf : Graph → List Actor → List Stop → Type 0
AreStopsOf g actors stops = (cl : Cluster) (f : Fold) → IsGraphOf cl f g → stops ≡ map (stop_of cl (is_lost cl f) f) actors

-- the stop is that of the actor
abbrev pub IsStopOf : Graph → Actor → Stop → Type 0
IsStopOf g a stop = (cl : Cluster) (f : Fold) → IsGraphOf cl f g → stop ≡ stop_of cl (is_lost cl f) f a

-- the actors of stops
abbrev pub stopped_actors : List Stop → List Actor
stopped_actors stops = map (λ s. s.actor) stops

-- the flags of the actors' serials are set too
abbrev pub SetsFlags : List Actor → List Bool → List Bool → Type 0
SetsFlags actors old new = (k : ℕ) → flag_at new k ≡ (flag_at old k || list_any (λ a. a.serial == k) actors)

-- a sweep by the node that leaves the graph so marked finds these actors, rising, and these are their stops
pub record Finds (g : Graph) (marked : Actor → Bool) (node : ℕ) (stopped : List Bool) (actors : List Actor) (stops : List Stop) : Type 0 where
  pub sweep : IsSweepBy g marked
  pub found : actors ≡ rising_actors (filter (falls g marked node stopped) g.shadows.names)
  pub evidence : AreStopsOf g actors stops
  pub each : stopped_actors stops ≡ actors

-- the verdict is that of the sweep that leaves out the dropped, at each fold that the graph stands for; whom it stops counts as
-- stopped from then on, and nothing else changes
pub record Sweeps (old new : Collected) (v : Verdict) : Type 0 where
  pub verdict : (cl : Cluster) (f : Fold) → IsGraphOf cl f old.graph
      → IsCompactedVerdict cl old.node (is_dropped old.graph) (was_stopped old) f v
  pub stopped : (a : Actor) → was_stopped new a ≡ (was_stopped old a || holds_actor (stopped_actors v.stops) a)
  pub node : new.node ≡ old.node
  pub order : new.order ≡ old.order
  pub graph : new.graph ≡ old.graph
  pub were : AreStopped (is_dropped old.graph) (was_stopped old)

-- exactly whom the collector stopped is dropped, and nothing else changes
pub record Compacts (old new : Collected) : Type 0 where
  pub dropped : (a : Actor) → is_dropped new.graph a ≡ was_stopped old a
  pub stands : (cl : Cluster) (f : Fold) → IsGraphOf cl f old.graph → IsGraphOf cl f new.graph
  pub node : new.node ≡ old.node
  pub order : new.order ≡ old.order
  pub stopped : new.stopped ≡ old.stopped
