-- Sums over messages, split by where the messages come from. The bounds of soundness compare them with what is told.
use Rattle.std.proofs.Common.{◌≡◌, ◌<◌, ◌+◌, ◌&&◌, ℕ, Bool, true, false, not, List, [], ◌∷◌, length, refl, sym, ◌∙◌, ap, inl, inr, arith}
use Rattle.std.proofs.lemmas.List.Sums.{sum_by-cons}
use Rattle.std.specs.Prelude.{cond}
use Rattle.std.specs.List.{filter, sum_by}
use Rattle.crgc_ids.specs.Actor.{Actor}
use Rattle.crgc_ids.specs.Members.{IsAmong}
use Rattle.history_model.specs.Tally.{tally}
use Rattle.history_model.specs.Cluster.{same_actor}
use Rattle.history_model.specs.Messages.{Message}
use Rattle.history_model.specs.Held.{carried}
use Rattle.history_model.proofs.Basics.{same_actor-refl}

-- ---- sums over a list

module _ {X : Type 0} where
  -- the items that pass two tests, as a sum over those that pass the second
  pub tally-filter : (p t : X → Bool) (xs : List X) → tally (λ x. p x && t x) xs ≡ sum_by (λ x. cond (p x) 1 0) (filter t xs)
  tally-filter p t [] = refl
  tally-filter p t (x ∷ xs) =
      let w : X → ℕ = λ x. cond (p x) 1 0 in
      let n = tally (λ x. p x && t x) xs in
      let before = tally-filter p t xs in
      let step = sum_by-cons w x (filter t xs) in
      elim (t x) as (λ v. cond (p x && v) (n + 1) n ≡ sum_by w (cond v (x ∷ filter t xs) (filter t xs))) [
        | true ↦
            (let value : cond (p x && true) (n + 1) n ≡ cond (p x) 1 0 + n =
            elim (p x) as (λ v. cond (v && true) (n + 1) n ≡ cond v 1 0 + n) [ true ↦ omega arith | false ↦ omega arith ] in
            omega (arith, before, step, value))
        | false ↦
            (let value : cond (p x && false) (n + 1) n ≡ n =
            elim (p x) as (λ v. cond (v && false) (n + 1) n ≡ n) [ true ↦ refl | false ↦ refl ] in
            value ∙ before)
      ]

  -- a sum is that over the items that fail a test and that over those that pass it
  pub sum_by-split : (p : X → Bool) (w : X → ℕ) (xs : List X) → sum_by (λ x. cond (not (p x)) (w x) 0) xs + sum_by (λ x. cond (p x) (w x) 0) xs ≡ sum_by w xs
  sum_by-split p w [] = omega arith
  sum_by-split p w (x ∷ xs) =
      let before = sum_by-split p w xs in
      let fails = sum_by-cons (λ x. cond (not (p x)) (w x) 0) x xs in
      let passes = sum_by-cons (λ x. cond (p x) (w x) 0) x xs in
      let all = sum_by-cons w x xs in
      let value : cond (not (p x)) (w x) 0 + cond (p x) (w x) 0 ≡ w x =
      elim (p x) as (λ v. cond (not v) (w x) 0 + cond v (w x) 0 ≡ w x) [ true ↦ omega arith | false ↦ omega arith ] in
      omega (arith, before, fails, passes, all, value)

  -- a sum of ones is the length
  pub sum_by-one : (xs : List X) → sum_by (λ _. 1) xs ≡ length xs
  sum_by-one [] = refl
  sum_by-one (x ∷ xs) = omega (arith, sum_by-one xs, sum_by-cons {X = X} (λ _. 1) x xs)

-- ---- references

-- an actor among the references is counted there
pub tally-member : (a : Actor) (xs : List Actor) → IsAmong a xs → 0 < tally (same_actor a) xs
tally-member a [] m = absurd m
tally-member a (b ∷ bs) (inl e) =
    let same : same_actor a b ≡ true = ap (same_actor a) (sym e) ∙ same_actor-refl a in
    rw same (omega arith)
tally-member a (b ∷ bs) (inr m) =
    let before = tally-member a bs m in
    elim (same_actor a b) as (λ v. 0 < cond v (tally (same_actor a) bs + 1) (tally (same_actor a) bs)) [ true ↦ omega arith | false ↦ before ]

-- what messages carry, as a sum over them
pub carried-sum : (a : Actor) (ms : List Message) → carried a ms ≡ sum_by (λ m. tally (same_actor a) m.refs) ms
carried-sum a [] = refl
carried-sum a (m ∷ ms) = omega (arith, carried-sum a ms, sum_by-cons {X = Message} (λ m. tally (same_actor a) m.refs) m ms)
