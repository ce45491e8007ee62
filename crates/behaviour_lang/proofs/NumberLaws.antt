-- How texts stand to each other, told by numbers whose first byte is the highest.
use Rattle.std.proofs.Common.{◌≡◌, ◌<◌, ◌+◌, ◌*◌, ℕ, zero, suc, List, [], ◌∷◌, ◌++◌, length, get_or, replicate, Ordering, Less, Equal, Greater, nat_cmp, refl, sym, ◌∙◌, ap₂, length-append, arith}
use Rattle.std.proofs.lemmas.Bool.Decides.{nat_tests}
use Rattle.std.proofs.lemmas.Cmp.{ranked, tied_itself, nat_list_cmp_total}
use Rattle.std.proofs.lemmas.List.{length-replicate}
use Rattle.std.specs.Cmp.{nat_cmp_is}
use Rattle.std.specs.Cmp.Lexicographic.{slice_cmp}
use Rattle.std.specs.Int.{w128, from_be_bytes}
use Rattle.std.specs.Ordering.{MatchOrdering, ordering_then}

-- a, and after it n bytes from place i on
abbrev number : ℕ → ℕ → ℕ → List ℕ → ℕ
number zero a i xs = a
number (suc n) a i xs = number n (a * 256 + get_or xs i 0) (suc i) xs

abbrev AreBytes : List ℕ → Type 0
AreBytes xs = (k : ℕ) → get_or xs k 0 < 256

number-tail : (n a i x : ℕ) (xs : List ℕ) → number n a (suc i) (x ∷ xs) ≡ number n a i xs
number-tail zero a i x xs = refl
number-tail (suc n) a i x xs = number-tail n (a * 256 + get_or xs i 0) (suc i) x xs

-- what comes before decides
number-below : (n a b i : ℕ) (xs ys : List ℕ) → AreBytes xs → a < b → number n a i xs < number n b i ys
number-below zero a b i xs ys small lt = lt
number-below (suc n) a b i xs ys small lt =
    number-below n (a * 256 + get_or xs i 0) (b * 256 + get_or ys i 0) (suc i) xs ys small (omega (arith, lt, small i))

-- texts of one length stand as their numbers do
ordered : (n a : ℕ) (xs ys : List ℕ) → length xs ≡ n → length ys ≡ n → AreBytes xs → AreBytes ys → nat_cmp (number n a 0 xs) (number n a 0 ys) ≡ slice_cmp nat_cmp xs ys
ordered zero a [] [] p q g h = sym (nat_cmp_is a a Equal refl)
ordered zero a (x ∷ xs) ys p q g h = absurd (omega (arith, p))
ordered n a [] (y ∷ ys) p q g h = absurd (omega (arith, p, q))
ordered (suc n) a xs [] p q g h = absurd (omega (arith, q))
ordered (suc n) a (x ∷ xs) (y ∷ ys) p q g h =
    by (nat_cmp x y) refl (ranked x y _ refl) (ordered n (a * 256 + x) xs ys (omega (arith, p)) (omega (arith, q)) (λ k. g (suc k)) (λ k. h (suc k)))
  where
    by : (r : Ordering) → r ≡ nat_cmp x y → MatchOrdering r (x < y) (x ≡ y) (y < x) → nat_cmp (number n (a * 256 + x) 0 xs) (number n (a * 256 + x) 0 ys) ≡ slice_cmp nat_cmp xs ys
        → nat_cmp (number n (a * 256 + x) 1 (x ∷ xs)) (number n (a * 256 + y) 1 (y ∷ ys)) ≡ ordering_then (nat_cmp x y) (slice_cmp nat_cmp xs ys)
    by Less is lt rest =
        let under : x < y = lt in
        rw (← is) (sym (nat_cmp_is _ _ Less (number-below n (a * 256 + x) (a * 256 + y) 1 (x ∷ xs) (y ∷ ys) g (omega (arith, under)))))
    by Equal is e rest =
        let same : y ≡ x = sym e in
        rw (← is, same, number-tail n (a * 256 + x) 0 x xs, number-tail n (a * 256 + x) 0 x ys) rest
    by Greater is lt rest =
        let over : y < x = lt in
        rw (← is) (sym (nat_cmp_is _ _ Greater (number-below n (a * 256 + y) (a * 256 + x) 1 (y ∷ ys) (x ∷ xs) h (omega (arith, over)))))

from_be_bytes-number : (xs : List ℕ) → from_be_bytes w128 xs ≡ number 16 0 0 xs
from_be_bytes-number xs = omega arith

pub ordered_by_number : (xs ys : List ℕ) → length xs ≡ 16 → length ys ≡ 16 → AreBytes xs → AreBytes ys → nat_cmp (from_be_bytes w128 xs) (from_be_bytes w128 ys) ≡ slice_cmp nat_cmp xs ys
ordered_by_number xs ys p q g h = ap₂ nat_cmp (from_be_bytes-number xs) (from_be_bytes-number ys) ∙ ordered 16 0 xs ys p q g h

-- zeros alone are the least
zeros_first : (k : ℕ) (ys : List ℕ) → length ys ≡ k → ordering_then (slice_cmp nat_cmp (replicate k 0) ys) Less ≡ Less
zeros_first zero [] e = refl
zeros_first zero (y ∷ ys) e = absurd (omega (arith, e))
zeros_first (suc k) [] e = absurd (omega (arith, e))
zeros_first (suc k) (y ∷ ys) e = grind (arith, zeros_first k ys (omega (arith, e)))

zeros_last : (k : ℕ) (xs : List ℕ) → length xs ≡ k → ordering_then (slice_cmp nat_cmp xs (replicate k 0)) Greater ≡ Greater
zeros_last zero [] e = refl
zeros_last zero (x ∷ xs) e = absurd (omega (arith, e))
zeros_last (suc k) [] e = absurd (omega (arith, e))
zeros_last (suc k) (x ∷ xs) e = grind (arith, nat_tests, zeros_last k xs (omega (arith, e)))

-- zeros behind two texts change no order but that of texts that differ by them alone
pub ordered_by_length : (k l : ℕ) (xs ys : List ℕ) → length xs + k ≡ length ys + l
    → ordering_then (slice_cmp nat_cmp (xs ++ replicate k 0) (ys ++ replicate l 0)) (nat_cmp (length xs) (length ys)) ≡ slice_cmp nat_cmp xs ys
ordered_by_length k l [] [] e =
    let same : k ≡ l = omega (arith, e) in
    rw (same, tied_itself nat_list_cmp_total (replicate l 0)) refl
ordered_by_length k l [] (y ∷ ys) e =
    rw (← nat_cmp_is 0 (suc (length ys)) Less (omega arith)) (zeros_first k (y ∷ (ys ++ replicate l 0)) (omega (arith, e, length-append ys (replicate l 0), length-replicate {A = ℕ} l 0)))
ordered_by_length k l (x ∷ xs) [] e =
    rw (← nat_cmp_is (suc (length xs)) 0 Greater (omega arith)) (zeros_last l (x ∷ (xs ++ replicate k 0)) (omega (arith, e, length-append xs (replicate k 0), length-replicate {A = ℕ} k 0)))
ordered_by_length k l (x ∷ xs) (y ∷ ys) e =
    let rest = ordered_by_length k l xs ys (omega (arith, e)) in
    let lengths : nat_cmp (suc (length xs)) (suc (length ys)) ≡ nat_cmp (length xs) (length ys) = grind (arith, nat_tests) in
    rw lengths (elim (nat_cmp x y) as (λ r. ordering_then (ordering_then r (slice_cmp nat_cmp (xs ++ replicate k 0) (ys ++ replicate l 0))) (nat_cmp (length xs) (length ys)) ≡ ordering_then r (slice_cmp nat_cmp xs ys)) [
      | Less ↦ refl
      | Equal ↦ rest
      | Greater ↦ refl
    ])
