-- Rising rows are determined by their totals: of each key there is at most one row, and what is counted is that row's count.
use Rattle.std.proofs.Common.{◌≡◌, ◌<◌, ℕ, Bool, true, false, cond, List, [], ◌∷◌, sym, ◌∙◌, ap, subst, inl, inr, arith, sum_by}
use Rattle.std.proofs.lemmas.Bool.{cases_Bool, cond-true, cond-false}
use Rattle.std.proofs.lemmas.List.Sums.{sum_by-cons}
use Rattle.std.specs.List.{AllByRecursion}
use Rattle.crgc_ids.specs.Members.{IsAmong, IsPart}
use Rattle.crgc_ids.specs.Rising.{IsRising}
use Rattle.crgc_ids.proofs.MembersLaws.{all-member}
use Rattle.crgc_ids.proofs.RisingLaws.{rising-same}
use Rattle.history_model.proofs.LinksSums.{sum_by-none, sum_by-some}
use Rattle.crgc_ids.proofs.KeyOrders.{IsKeyOrder}

module _ {K X : Type 0} (below : K → K → Type 0) (same : K → K → Bool) (key : X → K) (order : IsKeyOrder below same) where
  -- how often rows count a key
  abbrev pub total : (X → ℕ) → K → List X → ℕ
  total count k rows = sum_by (λ r. cond (same k (key r)) (count r) 0) rows

  abbrev Rise : List X → Type 0
  Rise rows = IsRising (λ r s. below (key r) (key s)) rows

  -- a key is not that of a row above it
  pub key-other : (k : K) (x : X) → below k (key x) → same k (key x) ≡ false
  key-other k x h =
      elim (cases_Bool (same k (key x))) [
        | inl t ↦ absurd (order.apart k (subst (below k) (sym ((order.told k (key x)).0 t)) h))
        | inr f ↦ f
      ]

  key-same : (k : K) (x : X) → k ≡ key x → same k (key x) ≡ true
  key-same k x e = (order.told k (key x)).1 e

  -- rising rows count of a row's key what the row counts
  pub total-row : (count : X → ℕ) (x : X) (rows : List X) → Rise rows → IsAmong x rows → total count (key x) rows ≡ count x
  total-row count x [] rise m = absurd m
  total-row count x (y ∷ ys) rise (inl e) =
      let none = sum_by-none (λ r. cond (same (key x) (key r)) (count r) 0) ys
      (λ z m. cond-false (same (key x) (key z)) (count z) 0 (key-other (key x) z (subst (λ w. below (key w) (key z)) (sym e) (all-member (λ s. below (key y) (key s)) z ys rise.0 m)))) in
      let here = cond-true (same (key x) (key y)) (count y) 0 (key-same (key x) y (ap key e)) in
      omega (arith, sum_by-cons (λ r. cond (same (key x) (key r)) (count r) 0) y ys, none, here, ap count e)
  total-row count x (y ∷ ys) rise (inr m) =
      let later = total-row count x ys rise.1 m in
      let above = all-member (λ s. below (key y) (key s)) x ys rise.0 m in
      let other : same (key x) (key y) ≡ false =
      elim (cases_Bool (same (key x) (key y))) [
        | inl t ↦ absurd (order.apart (key y) (subst (below (key y)) ((order.told (key x) (key y)).0 t) above))
        | inr f ↦ f
      ] in
      let here = cond-false (same (key x) (key y)) (count y) 0 other in
      omega (arith, sum_by-cons (λ r. cond (same (key x) (key r)) (count r) 0) y ys, later, here)

  -- a key that is counted has a row
  pub total-some : (count : X → ℕ) (k : K) (rows : List X) → 0 < total count k rows → (x : X) × IsAmong x rows × (key x ≡ k)
  total-some count k rows some =
      let found = sum_by-some (λ r. cond (same k (key r)) (count r) 0) rows some in
      let is : key found.0 ≡ k =
      elim (cases_Bool (same k (key found.0))) [
        | inl t ↦ sym ((order.told k (key found.0)).0 t)
        | inr f ↦ (let none = cond-false (same k (key found.0)) (count found.0) 0 f in absurd (omega (arith, found.2, none)))
      ] in
      (found.0, found.1, is)

  -- where each row has its like among others, whoever is above the one key is above the other: so they are the same rows
  pub rows-same : (xs ys : List X) → Rise xs → Rise ys → IsPart xs ys → IsPart ys xs → xs ≡ ys
  rows-same = rising-same (λ r s. below (key r) (key s)) (λ x. order.apart (key x)) (λ x y z. order.trans (key x) (key y) (key z))

  module _ (count : X → ℕ) (equal : (x y : X) → key x ≡ key y → count x ≡ count y → x ≡ y) where
    -- rows of which none counts 0 are among those that count the same
    counted-part : (xs ys : List X) → Rise xs → Rise ys → AllByRecursion (λ r. 0 < count r) xs → ((k : K) → total count k xs ≡ total count k ys) → IsPart xs ys
    counted-part xs ys rise rise' stand totals x m =
        let here = total-row count x xs rise m in
        let some = all-member (λ r. 0 < count r) x xs stand m in
        let found = total-some count (key x) ys (omega (arith, totals (key x))) in
        let there = total-row count found.0 ys rise' found.1 in
        let one : found.0 ≡ x = equal found.0 x found.2 (sym there ∙ ap (λ k. total count k ys) found.2 ∙ sym (totals (key x)) ∙ here) in
        subst (λ y. IsAmong y ys) one found.1

    pub counted-same : (xs ys : List X) → Rise xs → Rise ys → AllByRecursion (λ r. 0 < count r) xs → AllByRecursion (λ r. 0 < count r) ys
        → ((k : K) → total count k xs ≡ total count k ys) → xs ≡ ys
    counted-same xs ys rise rise' stand stand' totals =
        rows-same xs ys rise rise' (counted-part xs ys rise rise' stand totals) (counted-part ys xs rise' rise stand' (λ k. sym (totals k)))
