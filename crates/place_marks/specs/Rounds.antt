-- Marks after one round more, each decided from those before it.
use Rattle.std.specs.Prelude.{ℕ, ◌≡◌, ◌⊎◌, ◌<◌, ◌↔◌, Bool, true, false, List, count_by, length, slice_index_or}
use Rattle.std.specs.Bool.{Decides}
use Rattle.place_marks.specs.Graph.{Graph, IsReached, IsStep}

-- a positive edge leads to the place from a marked one
abbrev pub HasMarkedOwner : Graph → List Bool → ℕ → Type 0
HasMarkedOwner g marks p = (b : ℕ) × IsStep g b p × (slice_index_or marks b false ≡ true)

-- the place is marked after one round more: it was, it is a start, or a positive edge leads to it from a marked place
abbrev pub IsMarkedNext : Graph → List Bool → ℕ → Type 0
IsMarkedNext g marks p = (slice_index_or marks p false ≡ true) ⊎ ((g.is_start p ≡ true) ⊎ HasMarkedOwner g marks p)

-- the marks of the new row are those of one round after the old one
pub record IsRound (g : Graph) (old new : List Bool) : Type 0 where
  pub room : length new ≡ length old
  pub marks : (p : ℕ) → p < g.places → Decides (slice_index_or new p false) (IsMarkedNext g old p)

-- marked is exactly what is reached
abbrev pub AreReached : Graph → List Bool → Type 0
AreReached g marks = (p : ℕ) → (slice_index_or marks p false ≡ true) ↔ IsReached g p

-- more places are marked
abbrev pub AddsMarks : List Bool → List Bool → Type 0
AddsMarks old new = count_by (λ m. m) old < count_by (λ m. m) new
