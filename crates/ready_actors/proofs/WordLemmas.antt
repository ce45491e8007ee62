-- The ones of a word.
use Rattle.std.proofs.Common.{◌≡◌, ◌<◌, ◌≤◌, ◌+◌, ◌-◌, ◌*◌, ◌/◌, ◌%◌, ◌^◌, ◌==◌, ℕ, true, false, cond, refl, sym, ◌∙◌, ap, inl, inr, arith, w64, bit_and, bit_or}
use Rattle.std.proofs.Math.Nat.{div-le_self}
use Rattle.std.proofs.lemmas.Bool.{cases_eq, cases_lt, cond-false, cond-true, eq-eqb, ne_eqb, true≢false}
use Rattle.std.proofs.lemmas.Nat.{shr-shr}
use Rattle.std.proofs.lemmas.Nat.Bits.{bit_at-trailing_zeros, bit_at-zero, bit_at_above, bit_at_and, bit_at_clear_other, bit_at_clear_same, bit_at_set_other, bit_at_set_same}
use Rattle.std.specs.Int.{bit_at, bit_not, trailing_zeros}
use Rattle.ready_actors.specs.Flags.{IsFirstOf, IsNoneOf, has_one}

one-from : (word i b : ℕ) → bit_at word i ≡ b → has_one word i ≡ (b == 1)
one-from word i b e = ap (λ (x : ℕ). x == 1) e

pub zero-one : (i : ℕ) → has_one 0 i ≡ false
zero-one i = one-from 0 i 0 (bit_at-zero i)

-- a word has no one from 64 on
pub one-beyond : (word i : ℕ) → word < 2 ^ 64 → 64 ≤ i → has_one word i ≡ false
one-beyond word i small far = one-from word i 0 (bit_at_above word 64 i small far)

one-below : (word i : ℕ) → word < 2 ^ 64 → has_one word i ≡ true → i < 64
one-below word i small one = elim (cases_lt i 64) [
  | inl low ↦ low
  | inr far ↦ absurd (true≢false (sym one ∙ one-beyond word i small far))
]

-- the ones from a place on are those of the word shifted by it
one-shifted : (word from k : ℕ) → from ≤ k → has_one word k ≡ has_one (word / 2 ^ from) (k - from)
one-shifted word from k far =
    let e : k ≡ from + (k - from) = omega arith in
    ap (λ (b : ℕ). b == 1) (ap (λ (i : ℕ). bit_at word i) e ∙ sym (ap (λ (x : ℕ). x % 2) (shr-shr word from (k - from))))

pub none-beyond : (word from : ℕ) → word < 2 ^ 64 → 64 ≤ from → IsNoneOf (has_one word) from
none-beyond word from small far k above = one-beyond word k small (omega arith)

pub none-shifted : (word from : ℕ) → word / 2 ^ from ≡ 0 → IsNoneOf (has_one word) from
none-shifted word from e k above = one-shifted word from k above ∙ ap (λ (w : ℕ). has_one w (k - from)) e ∙ zero-one (k - from)

pub first-shifted : (word from zeros : ℕ) → word < 2 ^ 64 → 0 < word / 2 ^ from → zeros ≡ trailing_zeros w64 (word / 2 ^ from)
    → IsFirstOf (has_one word) from (from + zeros) × (from + zeros < 64)
first-shifted word from zeros small some e =
    let less = div-le_self word (2 ^ from) in
    let fits : word / 2 ^ from < 2 ^ 64 = omega arith in
    let lies = bit_at-trailing_zeros w64 (word / 2 ^ from) some fits in
    let back : from + zeros - from ≡ zeros = omega arith in
    let there : has_one word (from + zeros) ≡ true =
    one-shifted word from (from + zeros) (omega arith) ∙ one-from (word / 2 ^ from) (from + zeros - from) 1 (ap (λ (i : ℕ). bit_at (word / 2 ^ from) i) (back ∙ e) ∙ lies.1) in (
      record {
        there = there;
        not_below = omega arith;
        lowest = λ k above below. one-shifted word from k above ∙ one-from (word / 2 ^ from) (k - from) 0 (lies.2 (k - from) (let same = e in omega arith));
      },
      one-below word (from + zeros) small there,
    )

pub with-one : (word place : ℕ) → place < 64 → (i : ℕ) → has_one (bit_or word (1 * 2 ^ place % 2 ^ 64)) i ≡ cond (place == i) true (has_one word i)
with-one word place low i =
    let made = bit_or word (1 * 2 ^ place % 2 ^ 64) in
    elim (cases_eq i place) [
      | inl same ↦ one-from made i 1 (ap (λ (j : ℕ). bit_at made j) same ∙ bit_at_set_same w64 word place low)
          ∙ sym (cond-true (place == i) true (has_one word i) (eq-eqb place i (sym same)))
      | inr other ↦ one-from made i (bit_at word i) (bit_at_set_other w64 word place low i other)
          ∙ sym (cond-false (place == i) true (has_one word i) (ne_eqb place i (λ e. other (sym e))))
    ]

pub some-one : (word place : ℕ) → place < 64 → 0 < bit_or word (1 * 2 ^ place % 2 ^ 64)
some-one word place low =
    let made = bit_or word (1 * 2 ^ place % 2 ^ 64) in
    let one = with-one word place low place ∙ cond-true (place == place) true (has_one word place) (eq-eqb place place refl) in
    elim (cases_eq made 0) [
      | inl none ↦ absurd (true≢false (sym one ∙ ap (λ (w : ℕ). has_one w place) none ∙ zero-one place))
      | inr some ↦ omega (arith, some)
    ]

pub without-one : (word place : ℕ) → place < 64 → word < 2 ^ 64 → (i : ℕ) → has_one (bit_and word (bit_not w64 (1 * 2 ^ place % 2 ^ 64))) i ≡ cond (place == i) false (has_one word i)
without-one word place low small i =
    let mask = bit_not w64 (1 * 2 ^ place % 2 ^ 64) in
    let made = bit_and word mask in
    elim (cases_eq i place) [
      | inl same ↦ one-from made i 0 (ap (λ (j : ℕ). bit_at made j) same ∙ bit_at_clear_same w64 word place low)
          ∙ sym (cond-true (place == i) false (has_one word i) (eq-eqb place i (sym same)))
      | inr other ↦ one-from made i (bit_at word i) (elim (cases_lt i 64) [
        | inl inside ↦ bit_at_clear_other w64 word place low i inside other
        | inr far ↦ (let none = bit_at_above word 64 i small far in let both = bit_at_and word mask i in omega arith)
      ])
          ∙ sym (cond-false (place == i) false (has_one word i) (ne_eqb place i (λ e. other (sym e))))
    ]
