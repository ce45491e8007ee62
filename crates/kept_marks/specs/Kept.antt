-- Marks that are kept, each with what it stands on.
use Rattle.std.specs.Prelude.{ℕ, ◌≡◌, ◌≢◌, ◌⊎◌, ◌<◌, ◌≤◌, ◌↔◌, ◌+◌, ◌-◌, ◌*◌, Bool, true, false}
use Rattle.std.specs.Prelude.{List, [], Option, None, Some, length, count_by, slice_index_or}
use Rattle.std.specs.Option.{is_some}
use Rattle.place_marks.specs.Graph.{Graph, IsGraph, IsReached, IsStep}
use Rattle.kept_marks.specs.PlaceSet.{count_of, has_place}

-- What each mark stands on, by place: its support, which is the place itself where it stands as a start, or an owner; a place
-- without one is not marked. Beside it three sets: places that are to be looked at, places that are to be supported anew, and
-- places that lost their mark or found none.
pub record Kept : Type 0 where
  pub supports : List (Option ℕ)
  pub touched : List Bool
  pub queued : List Bool
  pub fallen : List Bool

-- what the mark of a stands on
abbrev pub support_of : List (Option ℕ) → ℕ → Option ℕ
support_of supports a = slice_index_or supports a None

-- whether a is marked
abbrev pub is_supported : List (Option ℕ) → ℕ → Bool
is_supported supports a = is_some (support_of supports a)

-- b can support a: it is a itself, a start; or it is another place, which is marked, and a positive edge leads from it to a
abbrev pub IsSupport : Graph → List (Option ℕ) → ℕ → ℕ → Type 0
IsSupport g supports a b =
    ((b ≡ a) × (g.is_start a ≡ true)) ⊎ ((b ≢ a) × (is_supported supports b ≡ true) × IsStep g b a)

-- nothing can support a: it is no start, and no place from which a positive edge leads to it is marked
pub record IsUnsupported (g : Graph) (supports : List (Option ℕ)) (a : ℕ) : Type 0 where
  pub start : g.is_start a ≡ false
  pub owners : (b : ℕ) → b < g.places → IsStep g b a → is_supported supports b ≡ false

-- what is kept of a is right: its support can support it, and nothing can where there is none
pub record Stands (g : Graph) (supports : List (Option ℕ)) (a : ℕ) : Type 0 where
  pub support : (b : ℕ) → support_of supports a ≡ Some b → IsSupport g supports a b
  pub none : support_of supports a ≡ None → IsUnsupported g supports a

-- ranks fall from each marked place to the other place that supports it
abbrev pub IsRanked : List (Option ℕ) → (ℕ → ℕ) → Type 0
IsRanked supports rank = (a b : ℕ) → support_of supports a ≡ Some b → b ≢ a → rank b < rank a

-- what is kept, over this graph: each place that is in neither set stands, a place of the queue is not marked, and supports
-- lead to a start in finitely many steps
pub record IsKept (g : Graph) (k : Kept) : Type 0 where
  pub whole : IsGraph g
  pub room : g.places ≤ length k.supports
  pub ranked : (rank : ℕ → ℕ) × IsRanked k.supports rank
  pub supports : (a b : ℕ) → support_of k.supports a ≡ Some b → (a < g.places) × (b < g.places)
  pub touched : (a : ℕ) → has_place k.touched a ≡ true → a < g.places
  pub queued : (a : ℕ) → has_place k.queued a ≡ true → (a < g.places) × (support_of k.supports a ≡ None)
  pub stands : (a : ℕ) → a < g.places → has_place k.touched a ≡ false → has_place k.queued a ≡ false → Stands g k.supports a

-- the set is empty
abbrev pub IsEmpty : List Bool → Type 0
IsEmpty flags = (a : ℕ) → has_place flags a ≡ false

-- a is marked, or in one of the three sets
abbrev pub IsWatched : Kept → ℕ → Type 0
IsWatched k a =
    (is_supported k.supports a ≡ true) ⊎ ((has_place k.touched a ≡ true) ⊎ ((has_place k.queued a ≡ true) ⊎ (has_place k.fallen a ≡ true)))

-- whatever was marked, or in one of the sets, still is
abbrev pub KeepsWatch : Kept → Kept → Type 0
KeepsWatch old new = (a : ℕ) → IsWatched old a → IsWatched new a

-- after a sweep: marked is exactly what is reached, nothing is left to look at, and whatever was marked or in one of the sets
-- is marked or fallen
pub record IsSwept (g : Graph) (old new : Kept) : Type 0 where
  pub marked : (a : ℕ) → (is_supported new.supports a ≡ true) ↔ IsReached g a
  pub touched : IsEmpty new.touched
  pub queued : IsEmpty new.queued
  pub watched : (a : ℕ) → IsWatched old a → (is_supported new.supports a ≡ true) ⊎ (has_place new.fallen a ≡ true)

-- nothing is marked, and no place is in a set
abbrev pub nothing_kept : Kept
nothing_kept = record { supports = []; touched = []; queued = []; fallen = [] }

-- where the graph changes, the mark of a is left as it was: a start that supports itself still is one, the edge from its owner
-- is still positive; or a is not marked, and became no start, and no edge from a marked place became positive
pub record IsSpared (old new : Graph) (supports : List (Option ℕ)) (a : ℕ) : Type 0 where
  pub start : support_of supports a ≡ Some a → old.is_start a ≡ true → new.is_start a ≡ true
  pub owner : (b : ℕ) → support_of supports a ≡ Some b → IsStep old b a → IsStep new b a
  pub unmarked : support_of supports a ≡ None → old.is_start a ≡ false → new.is_start a ≡ false
  pub others : (b : ℕ) → support_of supports a ≡ None → is_supported supports b ≡ true → IsStep new b a → IsStep old b a

-- the graph gets places, and starts and edges change; beside it more places are touched: each new one, and each that the
-- change does not spare
pub record IsTouched (old new : Graph) (before after : Kept) : Type 0 where
  pub places : old.places ≤ new.places
  pub room : new.places ≤ length after.supports
  pub supports : (a : ℕ) → support_of after.supports a ≡ support_of before.supports a
  pub queued : (a : ℕ) → has_place after.queued a ≡ has_place before.queued a
  pub touched : (a : ℕ) → has_place before.touched a ≡ true → has_place after.touched a ≡ true
  pub within : (a : ℕ) → has_place after.touched a ≡ true → a < new.places
  pub added : (a : ℕ) → old.places ≤ a → a < new.places → has_place after.touched a ≡ true
  pub spared : (a : ℕ) → a < old.places → has_place after.touched a ≡ false → IsSpared old new before.supports a

-- each set has room for each place
pub record HasRooms (k : Kept) : Type 0 where
  pub touched : length k.supports ≤ length k.touched
  pub queued : length k.supports ≤ length k.queued
  pub fallen : length k.supports ≤ length k.fallen

-- the targets of b with this support are in the set too, and nothing else
pub record AddsTargets (g : Graph) (supports : List (Option ℕ)) (old new : List Bool) (b : ℕ) (on : Option ℕ) : Type 0 where
  pub room : length new ≡ length old
  pub kept : (a : ℕ) → has_place old a ≡ true → has_place new a ≡ true
  pub added : (a : ℕ) → IsStep g b a → support_of supports a ≡ on → has_place new a ≡ true
  pub others : (a : ℕ) → has_place new a ≡ true → (has_place old a ≡ true) ⊎ (IsStep g b a × (support_of supports a ≡ on))

-- all is as before, but for reserved room
pub record IsSame (old new : Kept) : Type 0 where
  pub supports : (a : ℕ) → support_of new.supports a ≡ support_of old.supports a
  pub touched : (a : ℕ) → has_place new.touched a ≡ has_place old.touched a
  pub queued : (a : ℕ) → has_place new.queued a ≡ has_place old.queued a
  pub fallen : (a : ℕ) → has_place new.fallen a ≡ has_place old.fallen a

-- how many places are marked
abbrev pub marked_count : List (Option ℕ) → ℕ
marked_count supports = count_by is_some supports

-- what is left to do: each look at a place takes it out of its set, or changes its mark and then fills the set at most
abbrev pub check_work : Kept → ℕ
check_work k = marked_count k.supports * (length k.touched + 1) + count_of k.touched

abbrev pub settle_work : Kept → ℕ
settle_work k = (length k.supports - marked_count k.supports) * (length k.queued + 1) + count_of k.queued
