-- Sums and tallies over lists, and sums over the nodes of a cluster: what a fold admits from lost nodes is summed node
-- by node in `LinksMail`.
use Rattle.std.proofs.Common.{◌≡◌, ◌≢◌, ◌≤◌, ◌<◌, ◌+◌, ℕ, zero, suc, Bool, true, false, cond, List, [], ◌∷◌, sum_by, flat_map, refl, sym, ◌∙◌, ap, inl, inr, arith}
use Rattle.std.proofs.lemmas.Bool.{cases_eq, cases_lt}
use Rattle.std.proofs.lemmas.List.Sums.{sum_by-cons}
use Rattle.std.specs.List.{filter, range_with_len}
use Rattle.crgc_ids.specs.Nodes.{nodes_below}
use Rattle.crgc_ids.specs.Members.{IsAmong}
use Rattle.crgc_ids.proofs.MembersLaws.{IsAmong-from_range}
use Rattle.history_model.specs.Tally.{tally}
use Rattle.history_model.proofs.Lists.{tally-append}

module _ {X : Type 0} where
  -- sums of what is equal at each member are equal
  pub sum_by-same : (f g : X → ℕ) (xs : List X) → ((x : X) → IsAmong x xs → f x ≡ g x) → sum_by f xs ≡ sum_by g xs
  sum_by-same f g [] same = refl
  sum_by-same f g (x ∷ xs) same =
      let here = same x (inl refl) in
      let later = sum_by-same f g xs (λ y m. same y (inr m)) in
      let left = sum_by-cons f x xs in
      let right = sum_by-cons g x xs in
      left ∙ omega (arith, here, later) ∙ sym right

  -- a sum of nothing is 0
  pub sum_by-none : (f : X → ℕ) (xs : List X) → ((x : X) → IsAmong x xs → f x ≡ 0) → sum_by f xs ≡ 0
  sum_by-none f [] none = refl
  sum_by-none f (x ∷ xs) none =
      let here = none x (inl refl) in
      let later = sum_by-none f xs (λ y m. none y (inr m)) in
      sum_by-cons f x xs ∙ omega (arith, here, later)

  -- a sum is no less than what a member weighs
  pub sum_by-member : (w : X → ℕ) (x : X) (xs : List X) → IsAmong x xs → w x ≤ sum_by w xs
  sum_by-member w x [] m = absurd m
  sum_by-member w x (y ∷ ys) (inl e) = omega (arith, sum_by-cons w y ys, ap w e)
  sum_by-member w x (y ∷ ys) (inr m) = omega (arith, sum_by-cons w y ys, sum_by-member w x ys m)

  -- so it counts where a member counts
  pub sum_by-positive : (w : X → ℕ) (x : X) (xs : List X) → IsAmong x xs → 0 < w x → 0 < sum_by w xs
  sum_by-positive w x xs m some = omega (arith, sum_by-member w x xs m, some)

  -- and a member counts where it does
  pub sum_by-some : (w : X → ℕ) (xs : List X) → 0 < sum_by w xs → (x : X) × IsAmong x xs × (0 < w x)
  sum_by-some w [] some = absurd (omega arith)
  sum_by-some w (x ∷ xs) some =
      elim (cases_lt 0 (w x)) [
        | inl here ↦ (x, inl refl, here)
        | inr none ↦ (
            let found = sum_by-some w xs (omega (arith, some, none, sum_by-cons w x xs)) in
            (found.0, inr found.1, found.2)
            )
      ]

  -- a sum of sums
  pub sum_by-both : (f g h : X → ℕ) (xs : List X) → ((x : X) → f x ≡ g x + h x) → sum_by f xs ≡ sum_by g xs + sum_by h xs
  sum_by-both f g h [] both = refl
  sum_by-both f g h (x ∷ xs) both =
      omega (arith, sum_by-both f g h xs both, both x, sum_by-cons f x xs, sum_by-cons g x xs, sum_by-cons h x xs)

  -- what a filter takes away may be summed, where it counts nothing
  pub sum_by-filter : (f : X → ℕ) (test : X → Bool) (xs : List X) → ((x : X) → test x ≡ false → f x ≡ 0)
      → sum_by f (filter test xs) ≡ sum_by f xs
  sum_by-filter f test [] none = refl
  sum_by-filter f test (x ∷ xs) none =
      let later = sum_by-filter f test xs none in
      let both = sum_by-cons f x xs in
      (elim (test x) as (λ v. test x ≡ v → sum_by f (cond v (x ∷ filter test xs) (filter test xs)) ≡ sum_by f (x ∷ xs)) [
        | true ↦ λ _. sum_by-cons f x (filter test xs) ∙ ap (λ n. f x + n) later ∙ sym both
        | false ↦ λ e. (let here = none x e in later ∙ omega (arith, here) ∙ sym both)
      ]) refl

  -- a tally is a sum of ones
  pub tally-sum_by : (test : X → Bool) (xs : List X) → tally test xs ≡ sum_by (λ x. cond (test x) 1 0) xs
  tally-sum_by test [] = refl
  tally-sum_by test (x ∷ xs) = one (test x) (tally test xs) (sum_by (λ y. cond (test y) 1 0) xs) (tally-sum_by test xs) ∙ sym (sum_by-cons (λ y. cond (test y) 1 0) x xs)
    where
      one : (v : Bool) (n m : ℕ) → n ≡ m → cond v (n + 1) n ≡ cond v 1 0 + m
      one true n m e = omega arith
      one false n m e = omega arith

  -- a tally over joined lists is the sum of theirs
  pub tally-flat_map : {Y : Type 0} (test : Y → Bool) (f : X → List Y) (xs : List X) → tally test (flat_map f xs) ≡ sum_by (λ x. tally test (f x)) xs
  tally-flat_map test f [] = refl
  tally-flat_map test f (x ∷ xs) =
      tally-append test (f x) (flat_map f xs) ∙ ap (λ n. tally test (f x) + n) (tally-flat_map test f xs) ∙ sym (sum_by-cons (λ y. tally test (f y)) x xs)

-- sums that differ by z at one of the numbers that they go over
sum_by-point : (f g : ℕ → ℕ) (k z a n : ℕ) → a ≤ k → k < a + n → ((x : ℕ) → x ≢ k → f x ≡ g x) → f k ≡ g k + z
    → sum_by f (range_with_len a n) ≡ sum_by g (range_with_len a n) + z
sum_by-point f g k z a zero above below other here = absurd (omega arith)
sum_by-point f g k z a (suc n) above below other here =
    let left = sum_by-cons f a (range_with_len (a + 1) n) in
    let right = sum_by-cons g a (range_with_len (a + 1) n) in
    elim (cases_eq a k) [
      | inl e ↦ (
          let first : f a ≡ g a + z = ap f e ∙ here ∙ ap (λ x. g x + z) (sym e) in
          let later : (x : ℕ) → IsAmong x (range_with_len (a + 1) n) → f x ≡ g x = λ x m.
          let less = (IsAmong-from_range x (a + 1) n m).0 in
          other x (λ same. omega (arith, same, e, less)) in
          let rest = sum_by-same f g (range_with_len (a + 1) n) later in
          left ∙ omega (arith, first, rest) ∙ ap (λ x. x + z) (sym right))
      | inr differ ↦ (
          let first = other a differ in
          let rest = sum_by-point f g k z (a + 1) n (omega (arith, differ)) (omega arith) other here in
          left ∙ omega (arith, first, rest) ∙ ap (λ x. x + z) (sym right))
    ]

-- the same over the nodes of a cluster
pub nodes-point : (f g : ℕ → ℕ) (k z n : ℕ) → k < n → ((x : ℕ) → x ≢ k → f x ≡ g x) → f k ≡ g k + z → sum_by f (nodes_below n) ≡ sum_by g (nodes_below n) + z
nodes-point f g k z n below = sum_by-point f g k z 0 n (omega arith) (omega (arith, below))
