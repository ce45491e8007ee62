-- What a search finds among rows that rise as texts, and what an edit at that place does.
use Rattle.std.proofs.Common.{◌≡◌, ◌<◌, ◌+◌, ℕ, zero, suc, true, false, not, cond, List, [], ◌∷◌, length, get_or, Some, None, Result, Ok, Err, IfOk, IfErr, refl, sym, ◌∙◌, ap, inl, inr, arith}
use Rattle.std.proofs.lemmas.Bool.{cases_lt}
use Rattle.std.specs.List.{AllByRecursion, filter, insert, remove}
use Rattle.std.specs.List.Sorted.{IsSearchInRange, IsBinarySearchResult, IsSortedBy}
use Rattle.std.specs.declared.cmp.Ordering.TheVariants.{Less, Equal, Greater}
use Rattle.std.specs.Ordering.{nat_cmp, is_lt, is_eq, ordering_reverse}
use Rattle.std.specs.Cmp.Lexicographic.{slice_cmp, nat_list_cmp_total, texts_ties}
use Rattle.std.specs.Str.{bytes_eq}
use Rattle.std.proofs.lemmas.List.Sorted.{searchable_from_sorted}
use Rattle.crgc_ids.specs.Actor.{Actor}
use Rattle.crgc_ids.specs.Rising.{IsRising}
use Rattle.crgc_ids.proofs.RisingLaws.{IsRising-filter}
use Rattle.behaviour_lang.specs.Bound.{bound, without, bind, local_names}
use Rattle.behaviour_lang.specs.Rows.{Row, row_cmp, IsRowBelow, IsRowOf, IsGapFor}
use Rattle.behaviour_lang.specs.declared.instr.Name.TheVariants.{Local}

-- the other way round
turned : (x y : List ℕ) → slice_cmp nat_cmp x y ≡ ordering_reverse (slice_cmp nat_cmp y x)
turned = nat_list_cmp_total.antisymm

-- a text below or above another is not the same
differs_below : (x y : List ℕ) → slice_cmp nat_cmp y x ≡ Less → bytes_eq x y ≡ false
differs_below x y e = texts_ties x y ∙ ap is_eq (turned x y ∙ ap ordering_reverse e)

differs_above : (x y : List ℕ) → slice_cmp nat_cmp y x ≡ Greater → bytes_eq x y ≡ false
differs_above x y e = texts_ties x y ∙ ap is_eq (turned x y ∙ ap ordering_reverse e)

same_at_equal : (x y : List ℕ) → slice_cmp nat_cmp y x ≡ Equal → bytes_eq x y ≡ true
same_at_equal x y e = texts_ties x y ∙ ap is_eq (turned x y ∙ ap ordering_reverse e)

-- no row has the name
abbrev pub IsAbsent : List ℕ → List Row → Type 0
IsAbsent x rows = (k : ℕ) (d : Row) → k < length rows → (let row = get_or rows k d in bytes_eq x row.0) ≡ false

pub bound-absent : (x : List ℕ) (rows : List Row) → IsAbsent x rows → bound (Local x) (local_names rows) ≡ None
bound-absent x [] absent = refl
bound-absent x (row ∷ rows) absent =
    rw (absent 0 row (omega arith)) (bound-absent x rows (λ k d lt. absent (suc k) d (omega arith)))

pub without-absent : (x : List ℕ) (rows : List Row) → IsAbsent x rows → without (Local x) (local_names rows) ≡ local_names rows
without-absent x [] absent = refl
without-absent x (row ∷ rows) absent =
    rw (absent 0 row (omega arith)) (ap (λ names. (Local row.0, row.1) ∷ names) (without-absent x rows (λ k d lt. absent (suc k) d (omega arith))))

pub absent_at_gap : (x : List ℕ) (rows : List Row) (i : ℕ) → IsGapFor x rows i → IsAbsent x rows
absent_at_gap x rows i gap k d lt = let row = get_or rows k d in elim (cases_lt k i) [
  | inl before ↦ differs_below x row.0 (gap.below k d before)
  | inr from ↦ differs_above x row.0 (gap.above k d from lt)
]

-- the gap among the later rows
gap_after : (x : List ℕ) (row : Row) (rows : List Row) (i : ℕ) → IsGapFor x (row ∷ rows) (suc i) → IsGapFor x rows i
gap_after x row rows i gap = record {
  in_range = omega (arith, gap.in_range);
  below = λ k d lt. gap.below (suc k) d (omega arith);
  above = λ k d le lt. gap.above (suc k) d (omega arith) (omega arith);
}

-- a new row in the gap is the name bound in its place
pub bind-insert : (x : List ℕ) (a : Actor) (rows : List Row) (i : ℕ) → IsGapFor x rows i → bind x a (local_names rows) ≡ local_names (insert rows i (x, a))
bind-insert x a [] zero gap = refl
bind-insert x a [] (suc i) gap = refl
bind-insert x a (row ∷ rows) zero gap = rw (turned x row.0, gap.above 0 row (omega arith) (omega arith)) refl
bind-insert x a (row ∷ rows) (suc i) gap =
    rw (turned x row.0, gap.below 0 row (omega arith)) (ap (λ names. (Local row.0, row.1) ∷ names) (bind-insert x a rows i (gap_after x row rows i gap)))

-- it keeps the order
all_insert : (P : Row → Type 0) (rows : List Row) (i : ℕ) (new : Row) → AllByRecursion P rows → P new → AllByRecursion P (insert rows i new)
all_insert P [] zero new all one = (one, tt)
all_insert P [] (suc i) new all one = (one, tt)
all_insert P (row ∷ rows) zero new all one = (one, all)
all_insert P (row ∷ rows) (suc i) new all one = (all.0, all_insert P rows i new all.1 one)

pub rising-insert : (x : List ℕ) (a : Actor) (rows : List Row) (i : ℕ) → IsGapFor x rows i → IsRising IsRowBelow rows → IsRising IsRowBelow (insert rows i (x, a))
rising-insert x a [] zero gap rising = (tt, tt)
rising-insert x a [] (suc i) gap rising = (tt, tt)
rising-insert x a (row ∷ rows) zero gap rising = ((turned x row.0 ∙ ap ordering_reverse (gap.above 0 row (omega arith) (omega arith)), above_all rows rising.0), rising)
  where
    lower : slice_cmp nat_cmp x row.0 ≡ Less
    lower = turned x row.0 ∙ ap ordering_reverse (gap.above 0 row (omega arith) (omega arith))

    above_all : (rest : List Row) → AllByRecursion (IsRowBelow row) rest → AllByRecursion (IsRowBelow (x, a)) rest
    above_all [] all = tt
    above_all (s ∷ rest) all = (nat_list_cmp_total.trans x row.0 s.0 lower all.0, above_all rest all.1)
rising-insert x a (row ∷ rows) (suc i) gap rising =
    (all_insert (IsRowBelow row) rows i (x, a) rising.0 (gap.below 0 row (omega arith)), rising-insert x a rows i (gap_after x row rows i gap) rising.1)

-- a property of all rows is one of the row at a place
all_at : (P : Row → Type 0) (rows : List Row) (i : ℕ) (d : Row) → AllByRecursion P rows → i < length rows → P (get_or rows i d)
all_at P [] i d all lt = absurd (omega (arith, lt))
all_at P (row ∷ rows) zero d all lt = all.0
all_at P (row ∷ rows) (suc i) d all lt = all_at P rows i d all.1 (omega arith)

-- rows above a row that has the name do not have it
absent_above : (x : List ℕ) (row : Row) (rows : List Row) → row_cmp row x ≡ Equal → AllByRecursion (IsRowBelow row) rows → IsAbsent x rows
absent_above x row rows e all k d lt = let s = get_or rows k d in
    differs_above x s.0 (turned s.0 x ∙ ap ordering_reverse (sym (nat_list_cmp_total.congr row.0 x s.0 e) ∙ all_at (IsRowBelow row) rows k d all lt))

-- the rows but those of the name
abbrev pub rows_without : List ℕ → List Row → List Row
rows_without x rows = filter (λ row. not (bytes_eq x row.0)) rows

pub without-local_names : (x : List ℕ) (rows : List Row) → without (Local x) (local_names rows) ≡ local_names (rows_without x rows)
without-local_names x [] = refl
without-local_names x (row ∷ rows) =
    let rest = without-local_names x rows in
    elim (bytes_eq x row.0) as (λ v. cond (not v) ((Local row.0, row.1) ∷ without (Local x) (local_names rows)) (without (Local x) (local_names rows)) ≡ local_names (cond (not v) (row ∷ rows_without x rows) (rows_without x rows))) [
      | true ↦ rest
      | false ↦ ap (λ names. (Local row.0, row.1) ∷ names) rest
    ]

rows_without-absent : (x : List ℕ) (rows : List Row) → IsAbsent x rows → rows_without x rows ≡ rows
rows_without-absent x [] absent = refl
rows_without-absent x (row ∷ rows) absent =
    rw (absent 0 row (omega arith)) (ap (λ rest. row ∷ rest) (rows_without-absent x rows (λ k d lt. absent (suc k) d (omega arith))))

-- the row before the place of a name does not have it
differs_before : (x : List ℕ) (row : Row) (rows : List Row) (i : ℕ) → AllByRecursion (IsRowBelow row) rows → IsRowOf x rows i → bytes_eq x row.0 ≡ false
differs_before x row rows i all is_at = let s = get_or rows i row in
    differs_below x row.0 (turned row.0 x ∙ ap ordering_reverse (sym (nat_list_cmp_total.congr s.0 x row.0 (is_at.1 row)) ∙ turned s.0 row.0 ∙ ap ordering_reverse (all_at (IsRowBelow row) rows i row all is_at.0)))

row_after : (x : List ℕ) (row : Row) (rows : List Row) (i : ℕ) → IsRowOf x (row ∷ rows) (suc i) → IsRowOf x rows i
row_after x row rows i is_at = (omega (arith, is_at.0), is_at.1)

-- the row at the place of the name is taken away
pub remove-row : (x : List ℕ) (rows : List Row) (i : ℕ) → IsRising IsRowBelow rows → IsRowOf x rows i → remove rows i ≡ rows_without x rows
remove-row x [] i rising is_at = absurd (omega (arith, is_at.0))
remove-row x (row ∷ rows) zero rising is_at =
    rw (same_at_equal x row.0 (is_at.1 row)) (sym (rows_without-absent x rows (absent_above x row rows (is_at.1 row) rising.0)))
remove-row x (row ∷ rows) (suc i) rising is_at =
    let here = row_after x row rows i is_at in
    rw (differs_before x row rows i rising.0 here) (ap (λ rest. row ∷ rest) (remove-row x rows i rising.1 here))

pub rising-remove : (x : List ℕ) (rows : List Row) (i : ℕ) → IsRising IsRowBelow rows → IsRowOf x rows i → IsRising IsRowBelow (remove rows i)
rising-remove x rows i rising is_at = rw (remove-row x rows i rising is_at) (IsRising-filter IsRowBelow (λ row. not (bytes_eq x row.0)) rows rising)

-- the name is bound to the actor of its row
pub bound-row : (x : List ℕ) (rows : List Row) (i : ℕ) (d : Row) → IsRising IsRowBelow rows → IsRowOf x rows i → bound (Local x) (local_names rows) ≡ Some (let row = get_or rows i d in row.1)
bound-row x [] i d rising is_at = absurd (omega (arith, is_at.0))
bound-row x (row ∷ rows) zero d rising is_at = rw (same_at_equal x row.0 (is_at.1 row)) refl
bound-row x (row ∷ rows) (suc i) d rising is_at =
    let here = row_after x row rows i is_at in
    rw (differs_before x row rows i rising.0 here) (bound-row x rows i d rising.1 here)

-- the rows are sorted, as a search asks
adjacent : (rows : List Row) (k : ℕ) (d : Row) → IsRising IsRowBelow rows → suc k < length rows → slice_cmp nat_cmp (get_or rows k d).0 (get_or rows (suc k) d).0 ≡ Less
adjacent [] k d rising lt = absurd (omega (arith, lt))
adjacent (row ∷ rows) zero d rising lt = all_at (IsRowBelow row) rows 0 d rising.0 (omega arith)
adjacent (row ∷ rows) (suc k) d rising lt = adjacent rows k d rising.1 (omega arith)

sorted : (rows : List Row) → IsRising IsRowBelow rows → IsSortedBy (λ r s. is_lt (slice_cmp nat_cmp r.0 s.0)) rows
sorted rows rising k d le lt =
    let one_more : k + 1 ≡ suc k = omega arith in
    rw one_more (let r = get_or rows k d in let s = get_or rows (suc k) d in ap is_lt (turned s.0 r.0 ∙ ap ordering_reverse (adjacent rows k d rising (omega arith))))

-- what a search by name finds
pub searched : (x : List ℕ) (rows : List Row) → IsRising IsRowBelow rows → (r : Result ℕ ℕ) → IsSearchInRange r (length rows) → IsBinarySearchResult (λ row. row_cmp row x) rows r → IfOk r (IsRowOf x rows) × IfErr r (IsGapFor x rows)
searched x rows rising (Ok at) in_range found = ((in_range, found), tt)
searched x rows rising (Err at) in_range parted =
    let parts = parted (searchable_from_sorted nat_list_cmp_total (λ row. row.0) rows x (sorted rows rising)) in
    (tt, record { in_range = in_range; below = λ k d lt. parts.0 k d (omega arith) lt; above = λ k d le lt. parts.1 k d le lt })
