-- Compaction: a collector may forget actors that it stopped. They are gone, and its sweeps leave them out; counts, edges and
-- owners are those of all that is folded. Where whoever is gone was dead before, the verdicts are those of a sweep of all.
use Rattle.std.specs.Prelude.{ℕ, ◌≡◌, ◌<◌, ◌≤◌, ◌==◌, Bool, true, false, ◌&&◌, ◌||◌, not, List}
use Rattle.std.specs.Prelude.{◌++◌, length, map, slice_index}
use Rattle.std.specs.List.{filter}
use Rattle.crgc_ids.specs.Actor.{Actor}
use Rattle.crgc_ids.specs.Members.{IsAmong}
use Rattle.history_model.specs.declared.events.Event.{Event}
use Rattle.history_model.specs.declared.records.Stop.{Stop}
use Rattle.history_model.specs.declared.records.Verdict.{Verdict}
use Rattle.history_model.specs.Cluster.{Cluster}
use Rattle.history_model.specs.Folds.{Fold, is_lost, lost_of}
use Rattle.history_model.specs.Graph.{dead_without, holds_actor, known_actors}
use Rattle.history_model.specs.Legal.{IsLegal}
use Rattle.history_model.specs.Reached.{IsReachedWithout}
use Rattle.history_model.specs.Streams.{Notice, stream}
use Rattle.history_model.specs.Sweeps.{dead_of, is_stopped, stop_of}

-- ---- a sweep of what is left

-- nobody is gone
abbrev pub nobody : Actor → Bool
nobody a = false

-- a sweep leaves a out: it is gone, or its node is lost
abbrev pub is_left_out : (ℕ → Bool) → (Actor → Bool) → Actor → Bool
is_left_out lost gone a = gone a || lost a.node

-- the dead of a sweep that leaves out the lost and the gone; where nobody is gone, they are the dead
unfoldable pub compacted_dead : Cluster → (ℕ → Bool) → (Actor → Bool) → Fold → List Actor
compacted_dead cl lost gone f = dead_without cl lost (is_left_out lost gone) f

-- such a sweep marks a: it is known, not left out, and reached from a pseudoroot over actors that are not left out
abbrev pub IsMarked : Cluster → (ℕ → Bool) → (Actor → Bool) → Fold → Actor → Type 0
IsMarked cl lost gone f a =
    IsAmong a (known_actors cl f) × (is_left_out lost gone a ≡ false)
    × IsReachedWithout cl lost (is_left_out lost gone) f a

-- what such a sweep by m stops, rising: its actors among these dead that were not stopped before, each with the evidence
-- that all of the fold gives
abbrev pub compacted_stops : Cluster → ℕ → (Actor → Bool) → (Actor → Bool) → Fold → List Stop
compacted_stops cl m gone stopped f =
    map (stop_of cl (is_lost cl f) f)
    (filter (λ a. (a.node == m) && not (stopped a)) (compacted_dead cl (is_lost cl f) gone f))

-- its verdict, where this is folded
pub record IsCompactedVerdict (cl : Cluster) (m : ℕ) (gone stopped : Actor → Bool) (f : Fold) (v : Verdict) : Type 0 where
  pub node : v.node ≡ m
  pub cut : (o : ℕ) → o < cl.nodes → slice_index v.cut o ≡ length (f o)
  pub beyond : (o : ℕ) → cl.nodes ≤ o → slice_index v.cut o ≡ 0
  pub lost : v.lost ≡ lost_of cl f
  pub stops : v.stops ≡ compacted_stops cl m gone stopped f

-- ---- who may be gone

-- f begins, at each origin, with what g has of it
abbrev pub IsWithin : Fold → Fold → Type 0
IsWithin g f = (o : ℕ) → (more : List Notice) × (f o ≡ g o ++ more)

-- f has of each origin the first bulletins of its stream
abbrev pub IsFoldOf : Cluster → List Event → Fold → Type 0
IsFoldOf cl h f = IsWithin f (λ o. stream cl o h)

-- whoever is gone may be: it is dead in the fold, or its node is lost there, in each legal history in which this is folded
abbrev pub AreRightlyGone : Cluster → (Actor → Bool) → Fold → Type 0
AreRightlyGone cl gone f =
    (h : List Event) → IsLegal cl h → IsFoldOf cl h f
    → (a : Actor) → gone a ≡ true → is_lost cl f a.node ≡ false → holds_actor (dead_of cl f) a ≡ true

-- whoever is gone was stopped
abbrev pub AreStopped : (Actor → Bool) → (Actor → Bool) → Type 0
AreStopped gone stopped = (a : Actor) → gone a ≡ true → stopped a ≡ true

-- the tests are of m's collector: the one tells which of m's actors were stopped, and whoever is gone is one of these
pub record AreOwnStops (cl : Cluster) (m : ℕ) (h : List Event) (gone stopped : Actor → Bool) : Type 0 where
  pub exact : (a : Actor) → a.node ≡ m → stopped a ≡ is_stopped cl a h
  pub own : (a : Actor) → gone a ≡ true → a.node ≡ m
  pub were : AreStopped gone stopped
