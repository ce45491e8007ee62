-- Numbers in decimal, without sign and without leading zeros.
use Rattle.std.proofs.Common.{◌≡◌, ◌≢◌, ◌<◌, ◌≤◌, ◌^◌, ◌⊎◌, inl, inr, ℕ, zero, suc, Bool, true, false, cond, ◌&&◌, List, length, get_or, nat_le, Option, Some, None, Result, Ok, Err, refl, sym, ◌∙◌, ap, subst, arith}
use Rattle.std.proofs.lemmas.Fmt.{decimal_is_IsNumeral, first_decimal, decimal-digits_value, decimal_digit}
use Rattle.std.proofs.lemmas.Option.{none-some, same_Some}
use Rattle.std.proofs.lemmas.Slice.Eq.{bytes_eq-Decides}
use Rattle.std.proofs.lemmas.Str.Parse.{digit_at, numerals_by_value, parse_plain, tells_digits}
use Rattle.std.proofs.lemmas.Bool.{le-leb, leb-true}
use Rattle.std.specs.Fmt.{decimal}
use Rattle.std.specs.Result.{OkIff}
use Rattle.std.specs.Str.{bytes_eq}
use Rattle.std.specs.Str.Parse.{AllDigits, ParsesUnsigned, digits_value}
use Rattle.command_words.specs.Reading.{HasPlainStart, number_of}

tested : (a b c : Bool) (x n : ℕ) → cond (a && (b && c)) (Some x) None ≡ Some n → (a ≡ true) × (b ≡ true) × (c ≡ true) × (x ≡ n)
tested true true true x n e = (refl, refl, refl, same_Some x n e)
tested true true false x n e = absurd (none-some n e)
tested true false c x n e = absurd (none-some n e)
tested false b c x n e = absurd (none-some n e)

-- a number that is read is in its range, and spelled so
pub number_of-some : (low high n : ℕ) (w : List ℕ) → number_of low high w ≡ Some n → (low ≤ n) × (n ≤ high) × (decimal n ≡ w)
unfolding number_of
number_of-some low high n w e =
    let v = digits_value 10 w in
    let t = tested (bytes_eq (decimal v) w) (nat_le low v) (nat_le v high) v n e in
    let same = (bytes_eq-Decides (decimal v) w).0 t.0 in
    let from = leb-true low v t.1 in
    let to = leb-true v high t.2 in
    (omega (arith, t.3), omega (arith, t.3), ap decimal (sym t.3) ∙ same)

-- a number in its range is read from its spelling
pub number_of-decimal : (low high n : ℕ) → n < 2 ^ 64 → low ≤ n → n ≤ high → number_of low high (decimal n) ≡ Some n
unfolding number_of
number_of-decimal low high n small from to =
    let value : digits_value 10 (decimal n) ≡ n = (decimal_is_IsNumeral n small).1 in
    let same : bytes_eq (decimal n) (decimal n) ≡ true = (bytes_eq-Decides (decimal n) (decimal n)).1 refl in
    rw value (rw (same, le-leb low n from, le-leb n high to) refl)

none-from_each : (o : Option ℕ) → ((n : ℕ) → o ≡ Some n → ⊥) → o ≡ None
none-from_each None h = refl
none-from_each (Some n) h = absurd (h n refl)

-- where no number in the range is spelled so, none is read
pub number_of-none : (low high : ℕ) (w : List ℕ) → ((n : ℕ) → low ≤ n → n ≤ high → decimal n ≡ w → ⊥) → number_of low high w ≡ None
number_of-none low high w h = none-from_each (number_of low high w) (λ n e. let s = number_of-some low high n w e in h n s.0 s.1 s.2)

plain-zero : (n : ℕ) → n < 2 ^ 64 → (length (decimal n) ≡ 1) ⊎ (get_or (decimal n) 0 0 ≢ 48)
plain-zero zero small = inl (ap length (decimal_digit 0 (omega arith)))
plain-zero (suc n) small = inr (λ e. omega (arith, first_decimal (suc n) (omega arith) small))

-- a number in decimal begins plainly
decimal-plain : (n : ℕ) → n < 2 ^ 64 → HasPlainStart (decimal n)
decimal-plain n small =
    let d = decimal_is_IsNumeral n small in
    let first = digit_at (decimal n) 0 d.0.1 d.0.0 in
    (d.0.0, (λ e. omega (arith, first)), plain-zero n small)

pub spelled-plain : (n : ℕ) (w : List ℕ) → n < 2 ^ 64 → decimal n ≡ w → HasPlainStart w
spelled-plain n w small e = subst HasPlainStart e (decimal-plain n small)

lead : (w : List ℕ) → ((length w ≡ 1) ⊎ (get_or w 0 0 ≢ 48)) → get_or w 0 0 ≡ 48 → length w ≡ 1
lead w (inl one) e = one
lead w (inr other) e = absurd (other e)

-- what parsing answers of a word that begins plainly; the error says nothing
module _ (w : List ℕ) (plain : HasPlainStart w) where
  digits : (r : Result ℕ ℕ) → ParsesUnsigned 64 10 w r → OkIff r (AllDigits 10 w × (0 < length w) × (digits_value 10 w < 2 ^ 64)) (digits_value 10 w)
  digits r h = parse_plain (numerals_by_value (AllDigits 10) tells_digits) 64 w r h plain.1

  pub parsed-ok : (n : ℕ) → ParsesUnsigned {E = ℕ} 64 10 w (Ok n) → decimal n ≡ w
  parsed-ok n h =
      let d = digits (Ok n) h in
      ap decimal d.1 ∙ decimal-digits_value (numerals_by_value (AllDigits 10) tells_digits) w d.0.0 d.0.1 (lead w plain.2) d.0.2

  pub parsed-err : (n : ℕ) → ParsesUnsigned {E = ℕ} 64 10 w (Err 0) → n < 2 ^ 64 → decimal n ≡ w → ⊥
  parsed-err n h small same =
      let d = decimal_is_IsNumeral n small in
      let value : digits_value 10 w ≡ n = ap (digits_value 10) (sym same) ∙ d.1 in
      digits (Err 0) h (subst (AllDigits 10) same d.0.1, subst (λ (l : List ℕ). 0 < length l) same d.0.0, omega arith)
