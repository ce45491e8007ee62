-- Searches over ranges of numbers: which number is found first.
use Rattle.std.proofs.Common.{◌≡◌, ◌+◌, ◌<◌, ◌≤◌, ℕ, zero, suc, Bool, true, false, cond, Some, None, refl, sym, ap, subst, arith}
use Rattle.std.specs.List.{find, range_with_len}

-- how the first number stands to the one that is sought
pub order-cases : (i j : ℕ) → i ≤ j → (P : Type 0) → (i ≡ j → P) → (i + 1 ≤ j → P) → P
order-cases zero zero le P same more = same refl
order-cases zero (suc j) le P same more = more (omega arith)
order-cases (suc i) zero le P same more = absurd (omega (arith, le))
order-cases (suc i) (suc j) le P same more = order-cases i j (omega (arith, le)) P (λ e. same (ap suc e)) (λ less. more (omega (arith, less)))

-- a number is the first one that passes
pub first-number : (test : ℕ → Bool) (n i j : ℕ) → i ≤ j → j < i + n → ((k : ℕ) → i ≤ k → k < j → test k ≡ false) → test j ≡ true → find test (range_with_len i n) ≡ Some j
first-number test zero i j above below fails passes = absurd (omega (arith, above, below))
first-number test (suc n) i j above below fails passes =
    order-cases i j above (find test (range_with_len i (suc n)) ≡ Some j)
    (λ same. subst (λ k. cond (test k) (Some k) (find test (range_with_len (i + 1) n)) ≡ Some j) (sym same) (rw passes refl))
    (λ more. (let first = fails i (omega arith) (omega (arith, more)) in
    rw first (first-number test n (i + 1) j more (omega (arith, below)) (λ k over under. fails k (omega (arith, over)) under) passes)))

-- no number passes
pub no-number : (test : ℕ → Bool) (n i : ℕ) → ((k : ℕ) → i ≤ k → k < i + n → test k ≡ false) → find test (range_with_len i n) ≡ None
no-number test zero i fails = refl
no-number test (suc n) i fails =
    let first = fails i (omega arith) (omega arith) in
    rw first (no-number test n (i + 1) (λ k over under. fails k (omega (arith, over)) (omega (arith, under))))
