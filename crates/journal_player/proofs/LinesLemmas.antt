-- The lines of a text begin with the piece before the first line feed.
use Rattle.std.proofs.Common.{◌≡◌, ◌<◌, ◌≤◌, ◌+◌, ℕ, Bool, true, false, List, [], ◌∷◌, length, take, drop, refl, ◌∙◌, ap, subst, arith, cond}
use Rattle.std.specs.Prelude.{Some, None, position, nat_lt, ◌==◌}
use Rattle.std.specs.List.{slice_split, onto_first, position_or_len}
use Rattle.std.proofs.lemmas.List.Splits.{slice_split_none, slice_split_first}
use Rattle.std.proofs.lemmas.List.Quantifiers.{position-Some}
use Rattle.std.proofs.lemmas.List.Sums.{fails_before_first, position_or_len_is}
use Rattle.std.proofs.lemmas.Bool.Decides.{nat_tests}
use Rattle.journal_model.specs.Lines.{lines_of, without_empty_end}

abbrev is_line_feed : ℕ → Bool
is_line_feed b = b == 10

-- a piece before another is a line
first_of_more : (x y : List ℕ) (ys : List (List ℕ)) → without_empty_end (x ∷ y ∷ ys) ≡ x ∷ without_empty_end (y ∷ ys)
first_of_more [] y ys = refl
first_of_more (b ∷ bs) y ys = refl

-- so is a piece before what a text splits into
first_of_split : (x text : List ℕ) → without_empty_end (x ∷ slice_split is_line_feed text) ≡ x ∷ without_empty_end (slice_split is_line_feed text)
first_of_split x [] = first_of_more x [] []
first_of_split x (b ∷ bs) =
    elim (is_line_feed b) as (λ v. without_empty_end (x ∷ cond v ([] ∷ slice_split is_line_feed bs) (onto_first b (slice_split is_line_feed bs))) ≡ x ∷ without_empty_end (cond v ([] ∷ slice_split is_line_feed bs) (onto_first b (slice_split is_line_feed bs)))) [
      | true ↦ first_of_more x [] (slice_split is_line_feed bs)
      | false ↦ elim (slice_split is_line_feed bs) as (λ parts. without_empty_end (x ∷ onto_first b parts) ≡ x ∷ without_empty_end (onto_first b parts)) [
        | [] ↦ first_of_more x (b ∷ []) []
        | part ∷ parts ↦ first_of_more x (b ∷ part) parts
      ]
    ]

-- where a line feed stands, the first line ends
pub lines_of-first : (text : List ℕ) (i : ℕ) → position is_line_feed text ≡ Some i → lines_of text ≡ take i text ∷ lines_of (drop (i + 1) text)
lines_of-first text i found =
    let at = position-Some is_line_feed text i 0 found in
    let within : i < length text = at.0 in
    let first : position_or_len is_line_feed text ≡ i = position_or_len_is is_line_feed text i 0 (omega arith) at.2 (λ _. at.1) in
    let here : position_or_len is_line_feed text < length text = omega (arith, first, within) in
    subst (λ k. lines_of text ≡ take k text ∷ lines_of (drop (k + 1) text)) first
    (ap without_empty_end (slice_split_first is_line_feed text 0 here)
    ∙ first_of_split (take (position_or_len is_line_feed text) text) (drop (position_or_len is_line_feed text + 1) text))

-- where no element passes, the first place is the end
position-None : (xs : List ℕ) → position is_line_feed xs ≡ None → length xs ≤ position_or_len is_line_feed xs
position-None xs none =
    let split = elim (nat_lt (position_or_len is_line_feed xs) (length xs)) as (λ v. nat_lt (position_or_len is_line_feed xs) (length xs) ≡ v → cond v (Some (position_or_len is_line_feed xs)) None ≡ None → length xs ≤ position_or_len is_line_feed xs) [
      | true ↦ λ t e. absurd (cc)
      | false ↦ λ t e. grind (arith, nat_tests, t)
    ] in
    split refl none

-- where none stands, a text that is not empty is one line
pub lines_of-one : (text : List ℕ) → 0 < length text → position is_line_feed text ≡ None → lines_of text ≡ text ∷ []
lines_of-one [] some none = absurd (omega arith)
lines_of-one (b ∷ bs) some none =
    let end = position-None (b ∷ bs) none in
    ap without_empty_end (slice_split_none is_line_feed (b ∷ bs) (λ k d h. fails_before_first is_line_feed (b ∷ bs) k d (omega (arith, h, end))))
