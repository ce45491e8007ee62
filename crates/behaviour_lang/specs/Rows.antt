-- The rows of bound local names, which rise as texts.
use Rattle.std.specs.Prelude.{◌≡◌, ◌<◌, ◌≤◌, ℕ, List, length, slice_index_or}
use Rattle.std.specs.Ordering.{nat_cmp}
use Rattle.std.specs.declared.cmp.Ordering.TheVariants.{Less, Equal, Greater}
use Rattle.std.specs.declared.cmp.Ordering.{Ordering}
use Rattle.std.specs.Cmp.Lexicographic.{slice_cmp}
use Rattle.crgc_ids.specs.Actor.{Actor}

-- a name, and the actor to which it is bound
abbrev pub Row : Type 0
Row = List ℕ × Actor

abbrev pub row_cmp : Row → List ℕ → Ordering
row_cmp row name = slice_cmp nat_cmp row.0 name

abbrev pub IsRowBelow : Row → Row → Type 0
IsRowBelow r s = row_cmp r s.0 ≡ Less

-- the row at place i has the name
abbrev pub IsRowOf : List ℕ → List Row → ℕ → Type 0
IsRowOf name rows i = (i < length rows) × ((d : Row) → row_cmp (slice_index_or rows i d) name ≡ Equal)

-- the name would go at place i: the rows before it are below, and those from it on above
pub record IsGapFor (name : List ℕ) (rows : List Row) (i : ℕ) : Type 0 where
  pub in_range : i ≤ length rows
  pub below : (k : ℕ) (d : Row) → k < i → row_cmp (slice_index_or rows k d) name ≡ Less
  pub above : (k : ℕ) (d : Row) → i ≤ k → k < length rows → row_cmp (slice_index_or rows k d) name ≡ Greater
