-- Sums over the nodes below a number, and over the actors of a node.
use Rattle.std.proofs.Common.{◌≡◌, ◌≢◌, ◌+◌, ◌-◌, ◌<◌, ℕ, zero, suc, [], sum_by, sym, ◌∙◌, ap, inl, inr, arith}
use Rattle.std.proofs.lemmas.Bool.{cases_lt}
use Rattle.std.proofs.lemmas.List.Sums.{sum_by-cons}
use Rattle.std.specs.List.{range_with_len}
use Rattle.crgc_ids.specs.Nodes.{nodes_below}
use Rattle.history_model.proofs.LinksSums.{nodes-point}

-- a sum over one number more
range-more : (f : ℕ → ℕ) (a n k : ℕ) → k ≡ a + n → sum_by f (range_with_len a (suc n)) ≡ sum_by f (range_with_len a n) + f k
range-more f a zero k e = (let here : f k ≡ f a = ap f (omega arith) in sum_by-cons f a [] ∙ omega arith)
range-more f a (suc n) k e =
    let later = range-more f (a + 1) n k (omega arith) in
    let left = sum_by-cons f a (range_with_len (a + 1) (suc n)) in
    let right = sum_by-cons f a (range_with_len (a + 1) n) in
    omega (arith, later, left, right)

pub sum-next : (f : ℕ → ℕ) (n : ℕ) → sum_by f (nodes_below (n + 1)) ≡ sum_by f (nodes_below n) + f n
sum-next f n =
    let next : n + 1 ≡ suc n = omega arith in
    ap (λ k. sum_by f (nodes_below k)) next ∙ range-more f 0 n n (omega arith)

-- a sum whose terms change at one number changes by that term
pub sum-changed : (f g : ℕ → ℕ) (k n : ℕ) → k < n → ((x : ℕ) → x ≢ k → f x ≡ g x) → sum_by f (nodes_below n) + g k ≡ sum_by g (nodes_below n) + f k
sum-changed f g k n below same =
    elim (cases_lt (f k) (g k)) [
      | inl less ↦ (let more = nodes-point g f k (g k - f k) n below (λ x apart. sym (same x apart)) (omega (arith, less)) in omega (arith, more, less))
      | inr most ↦ (let more = nodes-point f g k (f k - g k) n below same (omega (arith, most)) in omega (arith, more, most))
    ]
