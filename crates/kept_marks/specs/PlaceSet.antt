-- Sets of places: a test for each place of the room.
use Rattle.std.specs.Prelude.{ℕ, ◌≡◌, Bool, true, false, List, [], ◌∷◌, slice_index_or, slice_set, count_by}

-- whether the place is in the set
abbrev pub has_place : List Bool → ℕ → Bool
has_place flags p = slice_index_or flags p false

-- the queue has each place of the set once, and no other
abbrev pub AreListed : List Bool → List ℕ → Type 0
AreListed flags [] = (p : ℕ) → has_place flags p ≡ false
AreListed flags (p ∷ queue) = (has_place flags p ≡ true) × AreListed (slice_set flags p false) queue

-- how many places are in the set
abbrev pub count_of : List Bool → ℕ
count_of flags = count_by (λ f. f) flags
