-- Counts of numbers that pass a test, where the test changes at one number, or further numbers are counted.
use Rattle.std.proofs.Common.{◌≡◌, ◌≢◌, ◌+◌, ◌<◌, ◌≤◌, ℕ, zero, suc, Bool, true, false, cond, sym, ap, inl, inr, arith}
use Rattle.std.proofs.lemmas.Bool.{cases_eq}
use Rattle.std.specs.List.{range_with_len}
use Rattle.crgc_ids.proofs.MembersLaws.{IsAmong-from_range}
use Rattle.history_model.specs.Tally.{tally}
use Rattle.history_model.proofs.Lists.{tally-same}

-- what a number counts, by its test
abbrev pub counts : Bool → ℕ
counts true = 1
counts false = 0

-- one number more counts if it passes
tally-range_more : (test : ℕ → Bool) (a n k : ℕ) → k ≡ a + n → tally test (range_with_len a (suc n)) ≡ tally test (range_with_len a n) + counts (test k)
tally-range_more test a zero k e =
    let same : k ≡ a = omega arith in
    let one : counts (test k) ≡ counts (test a) = ap (λ j. counts (test j)) same in
    first (test a) (counts (test k)) one
  where
    first : (v : Bool) (n : ℕ) → n ≡ counts v → cond v (0 + 1) 0 ≡ 0 + n
    first true n e = omega arith
    first false n e = omega arith
tally-range_more test a (suc n) k e =
    let later = tally-range_more test (a + 1) n k (omega arith) in
    more (test a) (tally test (range_with_len (a + 1) (suc n))) (tally test (range_with_len (a + 1) n)) (counts (test k)) later
  where
    more : (v : Bool) (x y z : ℕ) → x ≡ y + z → cond v (x + 1) x ≡ cond v (y + 1) y + z
    more true x y z e = omega arith
    more false x y z e = e

-- numbers that do not pass do not count
pub tally-further : (test : ℕ → Bool) (m j : ℕ) → ((k : ℕ) → m ≤ k → test k ≡ false) → tally test (range_with_len 0 (m + j)) ≡ tally test (range_with_len 0 m)
tally-further test m zero none = (let same : m + 0 ≡ m = omega arith in ap (λ n. tally test (range_with_len 0 n)) same)
tally-further test m (suc j) none =
    let next : m + suc j ≡ suc (m + j) = omega arith in
    let same = ap (λ n. tally test (range_with_len 0 n)) next in
    let more = tally-range_more test 0 (m + j) (m + j) (omega arith) in
    let nothing : counts (test (m + j)) ≡ counts false = ap counts (none (m + j) (omega arith)) in
    let before = tally-further test m j none in
    omega arith

-- tests that agree on the numbers below n count alike
tally-alike : (test other : ℕ → Bool) (n : ℕ) → ((k : ℕ) → k < n → test k ≡ other k) → tally test (range_with_len 0 n) ≡ tally other (range_with_len 0 n)
tally-alike test other n agree = tally-same test other (range_with_len 0 n) (λ k among. (let range = IsAmong-from_range k 0 n among in agree k (omega arith)))

-- a test that changes at one number changes the count by that number
pub tally-changed : (test other : ℕ → Bool) (n k : ℕ) → k < n → ((j : ℕ) → j ≢ k → test j ≡ other j) → tally test (range_with_len 0 n) + counts (other k) ≡ tally other (range_with_len 0 n) + counts (test k)
tally-changed test other zero k below agree = absurd (omega arith)
tally-changed test other (suc n) k below agree =
    let more = tally-range_more test 0 n n (omega arith) in
    let also = tally-range_more other 0 n n (omega arith) in
    elim (cases_eq k n) [
      | inl last ↦ (
          let before = tally-alike test other n (λ j less. agree j (λ e. absurd (omega arith))) in
          let one : counts (test k) ≡ counts (test n) = ap (λ j. counts (test j)) last in
          let two : counts (other k) ≡ counts (other n) = ap (λ j. counts (other j)) last in
          omega arith
          )
      | inr apart ↦ (
          let before = tally-changed test other n k (omega arith) agree in
          let same : counts (test n) ≡ counts (other n) = ap counts (agree n (λ e. apart (sym e))) in
          omega arith
          )
    ]
