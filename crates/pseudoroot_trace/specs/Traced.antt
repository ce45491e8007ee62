-- A shadow graph with the marks of its last sweep, and how both stand to each other.
use Rattle.std.specs.Prelude.{◌≡◌, ◌⊎◌, ◌&&◌, ◌<◌, ◌≤◌, ◌↔◌, ℕ, Bool, true, false, None, Some, length, slice_set}
use Rattle.crgc_ids.specs.Actor.{Actor}
use Rattle.kept_marks.specs.Kept.{IsEmpty, IsKept, IsRanked, IsWatched, Kept, Stands, is_supported, support_of}
use Rattle.kept_marks.specs.PlaceSet.{has_place}
use Rattle.place_marks.specs.Graph.{IsReached}
use Rattle.shadow_table.specs.Shadows.{is_named, place_in}
use Rattle.shadow_graph.specs.Graph.{Graph, lost_in}
use Rattle.shadow_graph.specs.Places.{ArePlaced}
use Rattle.pseudoroot_trace.specs.Marked.{IsSweepBy}
use Rattle.pseudoroot_trace.specs.Trace.{place_graph}

-- The graph; the marks, each with what it stands on, and the places that the next sweep looks at; how many places the last sweep
-- saw, so that those from there on are new; and whether the next one marks anew, whatever the marks.
pub record Traced : Type 0 where
  pub graph : Graph
  pub kept : Kept
  pub places : ℕ
  pub is_stale : Bool

-- marks and touched places are among those that the last sweep saw, and none is left to be supported
pub record AreSeen (names places : ℕ) (kept : Kept) : Type 0 where
  pub named : places ≤ names
  pub room : places ≤ length kept.supports
  pub supports : (a b : ℕ) → support_of kept.supports a ≡ Some b → (a < places) × (b < places)
  pub touched : (a : ℕ) → has_place kept.touched a ≡ true → a < places
  pub queued : IsEmpty kept.queued

-- the marks stand in the graph, but for those of touched places
pub record AreStanding (g : Graph) (places : ℕ) (kept : Kept) : Type 0 where
  pub ranked : (rank : ℕ → ℕ) × IsRanked kept.supports rank
  pub stands : (a : ℕ) → a < places → has_place kept.touched a ≡ false → Stands (place_graph g) kept.supports a

-- how the graph and its marks stand to each other
pub record IsTraced (t : Traced) : Type 0 where
  pub seen : AreSeen (length t.graph.shadows.names) t.places t.kept
  pub standing : t.is_stale ≡ false → AreStanding t.graph t.places t.kept

-- whether the last sweep left the actor marked
abbrev pub is_marked_in : Traced → Actor → Bool
is_marked_in t a = is_named t.graph.shadows.names a && is_supported t.kept.supports (place_in t.graph.shadows.names a)

-- the graph has no mark, and no place is to be looked at
pub record IsUnmarked (t : Traced) : Type 0 where
  pub supports : (a : ℕ) → support_of t.kept.supports a ≡ None
  pub places : t.places ≡ 0

-- ---- what is touched

-- more places are touched, of those that the last sweep saw, and nothing else changes
pub record TouchesMore (places : ℕ) (old new : Kept) : Type 0 where
  pub supports : new.supports ≡ old.supports
  pub queued : new.queued ≡ old.queued
  pub fallen : new.fallen ≡ old.fallen
  pub touched : (a : ℕ) → has_place old.touched a ≡ true → has_place new.touched a ≡ true
  pub within : (a : ℕ) → has_place new.touched a ≡ true → (has_place old.touched a ≡ true) ⊎ (a < places)

-- the next sweep looks at the actor: its place is touched, or new
abbrev pub IsLookedAt : Graph → ℕ → Kept → Actor → Type 0
IsLookedAt g places kept a =
    is_named g.shadows.names a ≡ true → place_in g.shadows.names a < places → has_place kept.touched (place_in g.shadows.names a) ≡ true

-- as the graph changes, marks stay, touched places stay touched, and it is known whether the next sweep marks anew
pub record KeepsMarks (old new : Traced) : Type 0 where
  pub supports : (a : ℕ) → support_of new.kept.supports a ≡ support_of old.kept.supports a
  pub touched : (a : ℕ) → has_place old.kept.touched a ≡ true → has_place new.kept.touched a ≡ true
  pub places : new.places ≡ old.places
  pub seen : old.places ≤ length old.graph.shadows.names
  pub placed : ArePlaced old.graph × ArePlaced new.graph
  pub fresh : new.is_stale ≡ false → (old.is_stale ≡ false) × (lost_in new.graph ≡ lost_in old.graph)

-- ---- a sweep

-- the sweep looks at the place, or its mark may fall: all is marked anew, or the place is new, marked, touched, or had fallen
abbrev pub MayFall : ℕ → Bool → Kept → ℕ → Type 0
MayFall places is_stale kept p = (is_stale ≡ true) ⊎ ((places ≤ p) ⊎ IsWatched kept p)

-- after a sweep over the graph's places: marked is exactly what marks reach, and whatever place may fall is marked or has fallen
pub record IsSweptAlong (g : Graph) (places : ℕ) (is_stale : Bool) (old new : Kept) : Type 0 where
  pub kept : IsKept (place_graph g) new
  pub marked : (p : ℕ) → (is_supported new.supports p ≡ true) ↔ IsReached (place_graph g) p
  pub touched : IsEmpty new.touched
  pub queued : IsEmpty new.queued
  pub fallen : (p : ℕ) → p < length g.shadows.names → MayFall places is_stale old p
      → (is_supported new.supports p ≡ true) ⊎ (has_place new.fallen p ≡ true)

-- after a sweep: marked is exactly what a sweep marks, each mark stands, and whatever place may fall is marked or has fallen
pub record IsSweptGraph (old new : Traced) : Type 0 where
  pub graph : new.graph ≡ old.graph
  pub placed : ArePlaced new.graph
  pub places : new.places ≡ length new.graph.shadows.names
  pub sweep : IsSweepBy new.graph (is_marked_in new)
  pub clean : IsEmpty new.kept.touched
  pub standing : AreStanding new.graph new.places new.kept
  pub fallen : (p : ℕ) → p < new.places → MayFall old.places old.is_stale old.kept p
      → (is_supported new.kept.supports p ≡ true) ⊎ (has_place new.kept.fallen p ≡ true)

-- a fallen place is taken out
abbrev pub TakesFallen : Traced → Traced → ℕ → Type 0
TakesFallen old new p = new ≡ record old { kept = record old.kept { fallen = slice_set old.kept.fallen p false } }
