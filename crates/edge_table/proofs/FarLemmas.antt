-- What a change of the map of far edges says of its numbers.
use Rattle.std.proofs.Common.{◌≡◌, ◌≢◌, ◌⊎◌, ℕ, Bool, true, false, cond, [], ◌∷◌, Option, Some, None, refl, sym, ◌∙◌, ap, subst, inl, inr, arith}
use Rattle.std.proofs.lemmas.Bool.{cases_eq, false≢true}
use Rattle.std.proofs.lemmas.Bool.Decides.{nat_tests}
use Rattle.std.proofs.lemmas.Option.{none-some}
use Rattle.std.specs.Map.{lookup}
use Rattle.std.specs.Option.{is_some, unwrap_or}
use Rattle.std.specs.Ordering.{is_eq, nat_cmp, ordering_then}
use Rattle.edge_table.specs.Far.{Entries, IsFarAdded, IsFarRemoved, far_number, same_places}

-- whether two pairs of places tie in their order
abbrev tie : ℕ × ℕ → ℕ × ℕ → Bool
tie p q = is_eq (ordering_then (nat_cmp p.0 q.0) (nat_cmp p.1 q.1))

tie-same : (p q : ℕ × ℕ) → tie p q ≡ same_places p q
tie-same p q = grind (arith, nat_tests)

-- so the map has for two places what its entry of them says
pub far-tie : (entries : Entries) (owner target : ℕ) → far_number entries owner target ≡ lookup (tie (owner, target)) entries
far-tie [] owner target = refl
far-tie (e ∷ entries) owner target = rw (tie-same (owner, target) e.0) (ap (cond (same_places (owner, target) e.0) (Some e.1)) (far-tie entries owner target))

-- the tests tell whether places are the same
cases_places : (owner target p q : ℕ) → (same_places (owner, target) (p, q) ≡ false) ⊎ ((p ≡ owner) × (q ≡ target))
cases_places owner target p q = elim (cases_eq p owner) [
  | inl e ↦ elim (cases_eq q target) [ inl f ↦ inr (e, f) | inr differ ↦ inl (grind (arith, nat_tests)) ]
  | inr differ ↦ inl (grind (arith, nat_tests))
]

-- a number is put in for places that have none
pub far-put : (old new : Entries) (owner target number : ℕ) → is_some (far_number old owner target) ≡ false → lookup (tie (owner, target)) new ≡ Some number → ((q : ℕ × ℕ) → tie (owner, target) q ≡ false → lookup (tie q) new ≡ lookup (tie q) old) → IsFarAdded old new owner target number true
far-put old new owner target number none here others = record {
  here = far-tie new owner target ∙ here ∙ ap Some (sym (unwrapped (far_number old owner target) none));
  others = λ p q apart. far-tie new p q ∙ others (p, q) (tie-same (owner, target) (p, q) ∙ apart) ∙ sym (far-tie old p q);
}
  where
    unwrapped : (o : Option ℕ) → is_some o ≡ false → unwrap_or o number ≡ number
    unwrapped None none = refl
    unwrapped (Some n) none = absurd (false≢true (sym none))

-- the number of two places is taken out
pub far-taken : (old new : Entries) (owner target number : ℕ) → far_number old owner target ≡ Some number → lookup (tie (owner, target)) new ≡ None → ((q : ℕ × ℕ) → tie (owner, target) q ≡ false → lookup (tie q) new ≡ lookup (tie q) old) → IsFarRemoved old new owner target number
far-taken old new owner target number was none others = record {
  here = λ n. (λ has. absurd (none-some n (sym (far-tie new owner target ∙ none) ∙ has)), λ has. absurd (has.1 (let same : Some n ≡ Some number = sym has.0 ∙ was in (cc))));
  others = λ p q apart. far-tie new p q ∙ others (p, q) (tie-same (owner, target) (p, q) ∙ apart) ∙ sym (far-tie old p q);
}

-- ---- a far edge more

module _ (old new : Entries) (owner target number : ℕ) (is_far : Bool) (added : IsFarAdded old new owner target number is_far) where
  added-at : (p q : ℕ) → p ≡ owner → q ≡ target → far_number new p q ≡ cond is_far (Some (unwrap_or (far_number old p q) number)) (far_number old p q)
  added-at p q e f = rw e (rw f added.here)

  -- each number stays
  pub added-kept : (p q n : ℕ) → far_number old p q ≡ Some n → far_number new p q ≡ Some n
  added-kept p q n has = elim (cases_places owner target p q) [
    | inl other ↦ added.others p q other ∙ has
    | inr same ↦ added-at p q same.0 same.1 ∙ ap (λ o. cond is_far (Some (unwrap_or o number)) o) has ∙ elim is_far as (λ b. cond b (Some n) (Some n) ≡ Some n) [ true ↦ refl | false ↦ refl ]
  ]

  -- no other comes but that of the edge
  pub added-alone : (p q n : ℕ) → far_number new p q ≡ Some n → (far_number old p q ≡ Some n) ⊎ ((p ≡ owner) × (q ≡ target) × (n ≡ number))
  added-alone p q n has = elim (cases_places owner target p q) [
    | inl other ↦ inl (sym (added.others p q other) ∙ has)
    | inr same ↦ elim (either is_far (far_number old p q) (sym (added-at p q same.0 same.1) ∙ has)) [
      | inl was ↦ inl was
      | inr is ↦ inr (same.0, same.1, is)
    ]
  ]
    where
      either : (b : Bool) (o : Option ℕ) → cond b (Some (unwrap_or o number)) o ≡ Some n → (o ≡ Some n) ⊎ (n ≡ number)
      either false o e = inl e
      either true (Some m) e = inl e
      either true None e = inr (cc)

  -- its places have a number
  pub added-put : is_far ≡ true → (n : ℕ) × (far_number new owner target ≡ Some n)
  added-put far = (unwrap_or (far_number old owner target) number, added.here ∙ ap (λ b. cond b (Some (unwrap_or (far_number old owner target) number)) (far_number old owner target)) far)

-- ---- a far edge less

module _ (old new : Entries) (owner target number : ℕ) (removed : IsFarRemoved old new owner target number) where
  -- each other number stays
  pub removed-kept : (p q n : ℕ) → far_number old p q ≡ Some n → n ≢ number → far_number new p q ≡ Some n
  removed-kept p q n has differ = elim (cases_places owner target p q) [
    | inl other ↦ removed.others p q other ∙ has
    | inr same ↦ rw same.0 (rw same.1 ((removed.here n).1 (subst (λ x. far_number old x target ≡ Some n) same.0 (subst (λ y. far_number old p y ≡ Some n) same.1 has), differ)))
  ]

  -- none comes, and the edge has its number no longer
  pub removed-alone : (p q n : ℕ) → far_number new p q ≡ Some n → (far_number old p q ≡ Some n) × (p ≡ owner → q ≡ target → n ≢ number)
  removed-alone p q n has = elim (cases_places owner target p q) [
    | inl other ↦ (sym (removed.others p q other) ∙ has, λ e f. absurd (apart e f other))
    | inr same ↦ (
        let is = (removed.here n).0 (subst (λ x. far_number new x target ≡ Some n) same.0 (subst (λ y. far_number new p y ≡ Some n) same.1 has)) in
        (rw same.0 (rw same.1 is.0), λ _ _. is.1)
        )
  ]
    where
      apart : p ≡ owner → q ≡ target → same_places (owner, target) (p, q) ≡ false → ⊥
      apart e f other = grind (arith, nat_tests)
