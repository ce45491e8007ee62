-- Rising lists that are extended, filtered or compared.
use Rattle.std.proofs.Common.{◌≡◌, ◌<◌, ◌+◌, ℕ, zero, suc, Bool, true, false, cond, List, [], ◌∷◌, ◌++◌, refl, sym, ◌∙◌, ap, subst, inl, inr, arith}
use Rattle.std.proofs.ByRecursion.{All-push}
use Rattle.std.specs.List.{AllByRecursion, filter, range_with_len}
use Rattle.crgc_ids.specs.Members.{IsPart}
use Rattle.crgc_ids.specs.Rising.{IsRising}
use Rattle.crgc_ids.proofs.MembersLaws.{IsAmong-from_filter, all-from_members, all-member}

module _ {X : Type 0} (below : X → X → Type 0) where
  -- a row above all the rows of a rising list may be put last
  pub IsRising-push : (xs : List X) (y : X) → IsRising below xs → AllByRecursion (λ x. below x y) xs → IsRising below (xs ++ y ∷ [])
  IsRising-push [] y r h = (tt, tt)
  IsRising-push (x ∷ xs) y r h = (All-push (below x) xs y r.0 h.0, IsRising-push xs y r.1 h.1)

  -- so may a row above the last one, if the order is transitive
  pub IsRising-push_above : (trans : (x y z : X) → below x y → below y z → below x z) (xs : List X) (y z : X) → IsRising below (xs ++ y ∷ []) → below y z → IsRising below ((xs ++ y ∷ []) ++ z ∷ [])
  IsRising-push_above trans [] y z r h = ((h, tt), (tt, tt))
  IsRising-push_above trans (x ∷ xs) y z r h =
      (All-push (below x) (xs ++ y ∷ []) z r.0 (trans x y z (last_of (below x) xs y r.0) h), IsRising-push_above trans xs y z r.1 h)
    where
      last_of : (P : X → Type 0) (xs : List X) (y : X) → AllByRecursion P (xs ++ y ∷ []) → P y
      last_of P [] y h = h.0
      last_of P (x ∷ xs) y h = last_of P xs y h.1

  all_filter : (P : X → Type 0) (p : X → Bool) (xs : List X) → AllByRecursion P xs → AllByRecursion P (filter p xs)
  all_filter P p xs all = all-from_members P (filter p xs) (λ x m. all-member P x xs all (IsAmong-from_filter p x xs m).0)

  -- a rising list that is filtered rises
  pub IsRising-filter : (p : X → Bool) (xs : List X) → IsRising below xs → IsRising below (filter p xs)
  IsRising-filter p [] h = tt
  IsRising-filter p (x ∷ xs) h =
      let rest = IsRising-filter p xs h.1 in
      elim (p x) as (λ b. IsRising below (cond b (x ∷ filter p xs) (filter p xs))) [ true ↦ (all_filter (below x) p xs h.0, rest) | false ↦ rest ]

-- numbers from a on rise
pub IsRising-range : (a n : ℕ) → IsRising ◌<◌ (range_with_len a n)
IsRising-range a zero = tt
IsRising-range a (suc n) = (all_above a (a + 1) n (omega arith), IsRising-range (a + 1) n)
  where
    all_above : (k a n : ℕ) → k < a → AllByRecursion (λ x. k < x) (range_with_len a n)
    all_above k a zero h = tt
    all_above k a (suc n) h = (h, all_above k (a + 1) n (omega arith))

-- rising lists of the same members are equal, in an order in which nothing is below itself
pub rising-same : {X : Type 0} (below : X → X → Type 0) (apart : (x : X) → below x x → ⊥) (trans : (x y z : X) → below x y → below y z → below x z) (xs ys : List X) → IsRising below xs → IsRising below ys → IsPart xs ys → IsPart ys xs → xs ≡ ys
rising-same below apart trans [] [] r s p q = refl
rising-same below apart trans [] (y ∷ ys) r s p q = absurd (q y (inl refl))
rising-same below apart trans (x ∷ xs) [] r s p q = absurd (p x (inl refl))
rising-same below apart trans (x ∷ xs) (y ∷ ys) r s p q =
    let not_both : below x y → below y x → ⊥ = λ h k. apart x (trans x y x h k) in
    let first : x ≡ y = elim (p x (inl refl)) [
      | inl e ↦ e
      | inr h ↦ elim (q y (inl refl)) [
        | inl e ↦ sym e
        | inr k ↦ absurd (not_both (all-member (below x) y xs r.0 k) (all-member (below y) x ys s.0 h))
      ]
    ] in
    let rest : xs ≡ ys = rising-same below apart trans xs ys r.1 s.1
    (λ z h. elim (p z (inr h)) [ inl e ↦ absurd (apart x (subst (below x) (e ∙ sym first) (all-member (below x) z xs r.0 h))) | inr k ↦ k ])
    (λ z h. elim (q z (inr h)) [ inl e ↦ absurd (apart y (subst (below y) (e ∙ first) (all-member (below y) z ys s.0 h))) | inr k ↦ k ]) in
    ap (λ z. z ∷ xs) first ∙ ap (λ zs. y ∷ zs) rest

pub rising_nodes-same : (xs ys : List ℕ) → IsRising ◌<◌ xs → IsRising ◌<◌ ys → IsPart xs ys → IsPart ys xs → xs ≡ ys
rising_nodes-same = rising-same ◌<◌ (λ x h. omega arith) (λ x y z h k. omega arith)
