-- Marks by place, and the marked places in the order of marking.
use Rattle.std.specs.Prelude.{ℕ, ◌≡◌, ◌⊎◌, ◌<◌, ◌≤◌, ◌==◌, ◌||◌, ◌↔◌, Bool, true, false, List, length, slice_index_or}
use Rattle.std.specs.Prelude.{count_by}
use Rattle.place_marks.specs.Graph.{Graph, IsReached, IsStep}

pub record Marking : Type 0 where
  pub marks : List Bool
  pub order : List ℕ

-- whether the place is marked
abbrev pub is_marked : Marking → ℕ → Bool
is_marked m p = slice_index_or m.marks p false

-- marked is exactly what is reached
abbrev pub IsMarking : Graph → Marking → Type 0
IsMarking g m = (p : ℕ) → (is_marked m p ≡ true) ↔ IsReached g p

-- the order has each marked place once: it is as long as there are marks
pub record IsOrdered (marks : List Bool) (order : List ℕ) : Type 0 where
  pub long : length order ≡ count_by (λ m. m) marks
  pub listed : (p : ℕ) → slice_index_or marks p false ≡ true → (k : ℕ) × (k < length order) × (slice_index_or order k 0 ≡ p)
  pub marked : (k : ℕ) → k < length order → slice_index_or marks (slice_index_or order k 0) false ≡ true

-- there are as many marks, those of before stand, and their order begins with that of before
pub record Extends (old new : Marking) : Type 0 where
  pub room : length new.marks ≡ length old.marks
  pub marks : (p : ℕ) → is_marked old p ≡ true → is_marked new p ≡ true
  pub long : length old.order ≤ length new.order
  pub order : (k : ℕ) → k < length old.order → slice_index_or new.order k 0 ≡ slice_index_or old.order k 0

-- the place is marked too, and nothing else changes
pub record Puts (old new : Marking) (place : ℕ) : Type 0 where
  pub extends : Extends old new
  pub marks : (p : ℕ) → is_marked new p ≡ (p == place || is_marked old p)

-- each start is marked
abbrev pub AreStartsMarked : Graph → Marking → Type 0
AreStartsMarked g m = (p : ℕ) → p < g.places → g.is_start p ≡ true → is_marked m p ≡ true

-- what is marked is a place that is reached
abbrev pub AreMarksReached : Graph → Marking → Type 0
AreMarksReached g m = (p : ℕ) → is_marked m p ≡ true → (p < g.places) × IsReached g p

-- the targets of b are marked too, and nothing else
pub record MarksTargets (g : Graph) (old new : Marking) (b : ℕ) : Type 0 where
  pub extends : Extends old new
  pub targets : (a : ℕ) → IsStep g b a → is_marked new a ≡ true
  pub others : (a : ℕ) → is_marked new a ≡ true → (is_marked old a ≡ true) ⊎ IsStep g b a
