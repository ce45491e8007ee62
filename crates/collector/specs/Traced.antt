-- How a collector stands to the marks of its graph, and finds and drops whom it stops without a look at all places.
use Rattle.std.specs.Prelude.{◌≡◌, ◌⊎◌, ◌||◌, ◌<◌, ℕ, Bool, true, false, List, length}
use Rattle.crgc_ids.specs.Actor.{Actor}
use Rattle.crgc_ids.specs.Members.{IsAmong}
use Rattle.history_model.specs.Cluster.{Cluster}
use Rattle.history_model.specs.Folds.{Fold}
use Rattle.history_model.specs.Graph.{holds_actor}
use Rattle.kept_marks.specs.PlaceSet.{has_place}
use Rattle.pseudoroot_trace.specs.Traced.{Traced, is_marked_in}
use Rattle.shadow_graph.specs.Places.{actor_of}
use Rattle.shadow_graph.specs.Seen.{is_dropped}
use Rattle.shadow_graph.specs.Stands.{IsGraphOf}
use Rattle.collector.specs.Collected.{Collected, was_stopped}
use Rattle.collector.specs.Sweeping.{falls}

-- whether a sweep that leaves the graph so marked stops the actor at the place
abbrev pub falls_at : Traced → ℕ → List Bool → ℕ → Bool
falls_at t node stopped p = falls t.graph (is_marked_in t) node stopped (actor_of t.graph p)

-- unless the next sweep marks anew, it stops nobody at a place that the last one saw and that was not touched since
abbrev pub NoneIsLeft : Traced → ℕ → List Bool → Type 0
NoneIsLeft t node stopped =
    t.is_stale ≡ false → (p : ℕ) → p < t.places → has_place t.kept.touched p ≡ false → falls_at t node stopped p ≡ false

-- whoever was stopped was dropped, or is to be dropped, and nobody else is
pub record AreGone (c : Collected) (gone : List Actor) : Type 0 where
  pub stopped : (a : Actor) → was_stopped c a ≡ true → (is_dropped c.graph a ≡ true) ⊎ IsAmong a gone
  pub only : (a : Actor) → IsAmong a gone → was_stopped c a ≡ true

-- ---- a sweep

-- whomever the sweep stops has fallen
abbrev pub HaveFallen : Traced → ℕ → List Bool → Type 0
HaveFallen t node stopped =
    (p : ℕ) → p < length t.graph.shadows.names → falls_at t node stopped p ≡ true → has_place t.kept.fallen p ≡ true

-- some fallen places are taken out, and nothing else changes
abbrev pub TakesSome : Traced → Traced → Type 0
TakesSome old new = new ≡ record old { kept = record old.kept { fallen = new.kept.fallen } }

-- the actor at the place is found too, if the sweep stops it, and nobody else
pub record FindsAt (t : Traced) (node : ℕ) (stopped : List Bool) (p : ℕ) (old new : List Actor) : Type 0 where
  pub kept : (a : Actor) → IsAmong a old → IsAmong a new
  pub only : (a : Actor) → IsAmong a new
      → IsAmong a old ⊎ (IsAmong a t.graph.shadows.names × (falls t.graph (is_marked_in t) node stopped a ≡ true))
  pub here : p < length t.graph.shadows.names → falls_at t node stopped p ≡ true → IsAmong (actor_of t.graph p) new

-- of the places that had fallen, each has still, or the actor there is found, if the sweep stops it; and nobody else is found
pub record HasFound (t : Traced) (node : ℕ) (stopped : List Bool) (fallen : List Bool) (found : List Actor) : Type 0 where
  pub only : (a : Actor) → IsAmong a found
      → IsAmong a t.graph.shadows.names × (falls t.graph (is_marked_in t) node stopped a ≡ true)
  pub all : (p : ℕ) → has_place t.kept.fallen p ≡ true
      → (has_place fallen p ≡ true)
      ⊎ (p < length t.graph.shadows.names → falls_at t node stopped p ≡ true → IsAmong (actor_of t.graph p) found)

-- ---- compaction

-- exactly these actors are dropped too, nobody is left who was not, and all else stays
pub record DropsAll (gone : List Actor) (old new : Traced) : Type 0 where
  pub dropped : (a : Actor) → is_dropped new.graph a ≡ (is_dropped old.graph a || holds_actor gone a)
  pub names : new.graph.shadows.names ≡ old.graph.shadows.names
  pub finals : new.graph.finals ≡ old.graph.finals
  pub cut : new.graph.cut ≡ old.graph.cut
  pub stands : (cl : Cluster) (f : Fold) → IsGraphOf cl f old.graph → IsGraphOf cl f new.graph
  pub left : (node : ℕ) (stopped : List Bool) → NoneIsLeft old node stopped → NoneIsLeft new node stopped
