-- One level of flags over another.
use Rattle.std.proofs.Common.{◌≡◌, ◌≢◌, ◌+◌, ◌*◌, ◌/◌, ◌%◌, ◌==◌, ℕ, Bool, not, true, false, cond, List, sym, ◌∙◌, ap, inl, inr, arith}
use Rattle.std.proofs.lemmas.Bool.{cases_eq, cases_lt, cond-false, cond-true, eq-eqb, eqb-true, ne_eqb, not-false, true≢false}
use Rattle.ready_actors.specs.Flags.{IsFirstIn, IsFirstOf, IsNoneIn, IsNoneOf, Summarizes, has_flag, has_one, has_word, word_at}
use Rattle.ready_actors.proofs.WordLemmas.{zero-one}

-- ---- one flag is written at both levels

pub summary-set : (above above' : ℕ → Bool) (words words' : List ℕ) (n : ℕ) → Summarizes above words
    → ((g : ℕ) → above' g ≡ cond (n == g) true (above g)) → ((g : ℕ) → g ≢ n → word_at words' g ≡ word_at words g) → has_word words' n ≡ true → Summarizes above' words'
summary-set above above' words words' n sums set others some g = elim (cases_eq n g) [
  | inl same ↦ set g ∙ cond-true (n == g) true (above g) (eq-eqb n g same) ∙ sym (ap (has_word words') (sym same) ∙ some)
  | inr other ↦ set g ∙ cond-false (n == g) true (above g) (ne_eqb n g other) ∙ sums g ∙ sym (ap (λ (w : ℕ). not (w == 0)) (others g (λ e. other (sym e))))
]

pub summary-unset : (above above' : ℕ → Bool) (words words' : List ℕ) (n : ℕ) → Summarizes above words
    → ((g : ℕ) → above' g ≡ cond (n == g) false (above g)) → ((g : ℕ) → g ≢ n → word_at words' g ≡ word_at words g) → has_word words' n ≡ false → Summarizes above' words'
summary-unset above above' words words' n sums unset others none g = elim (cases_eq n g) [
  | inl same ↦ unset g ∙ cond-true (n == g) false (above g) (eq-eqb n g same) ∙ sym (ap (has_word words') (sym same) ∙ none)
  | inr other ↦ unset g ∙ cond-false (n == g) false (above g) (ne_eqb n g other) ∙ sums g ∙ sym (ap (λ (w : ℕ). not (w == 0)) (others g (λ e. other (sym e))))
]

-- what is above stays where the word has a flag after the change, and so had one before
pub summary-kept : (above : ℕ → Bool) (words words' : List ℕ) (n : ℕ) → Summarizes above words
    → ((g : ℕ) → g ≢ n → word_at words' g ≡ word_at words g) → (word_at words n ≡ 0 → word_at words' n ≡ 0) → has_word words' n ≡ true → Summarizes above words'
summary-kept above words words' n sums others none some g = elim (cases_eq n g) [
  | inl same ↦
      let before : has_word words n ≡ true = elim (cases_eq (word_at words n) 0) [
        | inl zero ↦ absurd (true≢false (sym some ∙ ap (λ (w : ℕ). not (w == 0)) (none zero)))
        | inr more ↦ ap not (ne_eqb (word_at words n) 0 more)
      ] in
      sums g ∙ ap (has_word words) (sym same) ∙ before ∙ sym some ∙ ap (has_word words') same
  | inr other ↦ sums g ∙ sym (ap (λ (w : ℕ). not (w == 0)) (others g (λ e. other (sym e))))
]

-- as `Summarizes`, where the words are as before
pub summary-same : (above above' : ℕ → Bool) (words words' : List ℕ) → Summarizes above words → ((g : ℕ) → above' g ≡ above g) → ((g : ℕ) → word_at words' g ≡ word_at words g) → Summarizes above' words'
summary-same above above' words words' sums alike same g = alike g ∙ sums g ∙ sym (ap (λ (w : ℕ). not (w == 0)) (same g))

pub flag-same : (words words' : List ℕ) → ((g : ℕ) → word_at words' g ≡ word_at words g) → (k : ℕ) → has_flag words' k ≡ has_flag words k
flag-same words words' same k = ap (λ (w : ℕ). has_one w (k % 64)) (same (k / 64))

-- ---- the search

pub first-alike : (p q : ℕ → Bool) (from first : ℕ) → ((k : ℕ) → p k ≡ q k) → IsFirstOf p from first → IsFirstOf q from first
first-alike p q from first same found =
    record { there = sym (same first) ∙ found.there; not_below = found.not_below; lowest = λ k above below. sym (same k) ∙ found.lowest k above below }

no-flag : (words : List ℕ) (k : ℕ) → has_word words (k / 64) ≡ false → has_flag words k ≡ false
no-flag words k none =
    let zero : word_at words (k / 64) ≡ 0 = eqb-true (word_at words (k / 64)) 0 (not-false (word_at words (k / 64) == 0) none) in
    ap (λ (w : ℕ). has_one w (k % 64)) zero ∙ zero-one (k % 64)

-- where the word has no flag from the number on, the first one is in the first word beyond that has any
pub first-over : (words : List ℕ) (from group first : ℕ) → IsNoneIn words from → IsFirstOf (has_word words) (from / 64 + 1) group → IsFirstIn words (group * 64) first
    → IsFirstOf (has_flag words) from first
first-over words from group first none beyond here =
    let own = here.word in
    let far = beyond.not_below in
    let low = here.first_of.not_below in
    record {
      there = here.first_of.there;
      not_below = omega arith;
      lowest = λ k above below. elim (cases_lt k (group * 64)) [
        | inl before ↦ elim (cases_eq (k / 64) (from / 64)) [
          | inl same ↦ none k above same
          | inr other ↦ no-flag words k (beyond.lowest (k / 64) (omega (arith, other)) (omega arith))
        ]
        | inr inside ↦ here.first_of.lowest k inside below
      ];
    }

pub none-over : (words : List ℕ) (from : ℕ) → IsNoneIn words from → IsNoneOf (has_word words) (from / 64 + 1) → IsNoneOf (has_flag words) from
none-over words from none beyond k above = elim (cases_eq (k / 64) (from / 64)) [
  | inl same ↦ none k above same
  | inr other ↦ no-flag words k (beyond (k / 64) (omega (arith, other)))
]
