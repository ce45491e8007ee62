-- The index of a pair in a list of distinct pairs.
use Rattle.std.proofs.Common.{◌≡◌, ◌⊎◌, ◌&&◌, ◌||◌, ◌+◌, ◌<◌, ℕ, zero, suc, Bool, true, false, cond, not, ltb, List, [], ◌∷◌, ◌++◌, Option, Some, None, get_or, length, position, take, refl, sym, ◌∙◌, ap, inl, inr, arith}
use Rattle.std.proofs.lemmas.Bool.{cases_lt, le-ltb, lt-ltb, or_parts}
use Rattle.std.proofs.lemmas.Bool.Decides.{nat_tests}
use Rattle.std.proofs.lemmas.List.{get_or_default}
use Rattle.std.proofs.lemmas.List.Quantifiers.{position-Some}
use Rattle.std.proofs.lemmas.Map.Keys.{IsDistinct-push}
use Rattle.std.proofs.lemmas.Option.{none-some}
use Rattle.std.specs.Bool.{Decides}
use Rattle.std.specs.Cmp.{IsEquivalence}
use Rattle.std.specs.List.{AllByRecursion, IsDistinct, list_any, position_or_len}
use Rattle.std.specs.Option.{option_map}
use Rattle.crgc_ids.proofs.KeyOrders.{pair_order}
use Rattle.crgc_ids.specs.Actor.{Actor, same_actor}
use Rattle.crgc_ids.specs.Members.{IsAmong}
use Rattle.edge_table.specs.Table.{same_pair}

-- ---- where one passes

position-step : {X : Type 0} (test : X → Bool) (x : X) (xs : List X) → position test (x ∷ xs) ≡ cond (test x) (Some 0) (option_map suc (position test xs))
position-step test x xs =
    let p = position_or_len test xs in
    let n = length xs in
    let one : 1 + p ≡ suc p = omega arith in
    elim (test x) as (λ b. cond (ltb (cond (not b) (1 + p) 0) (suc n)) (Some (cond (not b) (1 + p) 0)) None ≡ cond b (Some 0) (option_map suc (position test xs))) [
      | true ↦ ap (λ b. cond b (Some 0) None) (lt-ltb 0 (suc n) (omega arith))
      | false ↦ ap (λ m. cond (ltb m (suc n)) (Some m) None) one ∙ after p n
    ]
  where
    after : (p n : ℕ) → cond (ltb (suc p) (suc n)) (Some (suc p)) None ≡ option_map suc (cond (ltb p n) (Some p) None)
    after p n = elim (cases_lt p n) [
      | inl less ↦ ap (λ b. cond b (Some (suc p)) None) (lt-ltb (suc p) (suc n) (omega arith)) ∙ sym (ap (λ b. option_map suc (cond b (Some p) None)) (lt-ltb p n less))
      | inr past ↦ ap (λ b. cond b (Some (suc p)) None) (le-ltb (suc p) (suc n) (omega arith)) ∙ sym (ap (λ b. option_map suc (cond b (Some p) None)) (le-ltb p n past))
    ]

-- the first that passes, where it comes last, has the last place
position-last : {X : Type 0} (test : X → Bool) (xs : List X) (y : X) → list_any test xs ≡ false → test y ≡ true → position test (xs ++ y ∷ []) ≡ Some (length xs)
position-last test [] y none passes = position-step test y [] ∙ ap (λ b. cond b (Some 0) None) passes
position-last test (x ∷ xs) y none passes =
    let parts = or_parts (test x) (list_any test xs) none in
    position-step test x (xs ++ y ∷ []) ∙ (λ i. cond (parts.0 i) (Some 0) (option_map suc (position-last test xs y parts.1 passes i)))

-- one that does not pass, and comes last, changes no place
position-before : {X : Type 0} (test : X → Bool) (xs : List X) (y : X) → test y ≡ false → position test (xs ++ y ∷ []) ≡ position test xs
position-before test [] y fails = position-step test y [] ∙ ap (λ b. cond b (Some 0) None) fails
position-before test (x ∷ xs) y fails =
    position-step test x (xs ++ y ∷ []) ∙ ap (λ o. cond (test x) (Some 0) (option_map suc o)) (position-before test xs y fails)
    ∙ sym (position-step test x xs)

-- what comes later changes no place
pub position-more : {X : Type 0} (test : X → Bool) (xs ys : List X) (n : ℕ) → position test xs ≡ Some n → position test (xs ++ ys) ≡ Some n
position-more test [] ys n e = absurd (none-some n e)
position-more test (x ∷ xs) ys n e =
    position-step test x (xs ++ ys)
    ∙ elim (test x) as (λ b. cond b (Some 0) (option_map suc (position test xs)) ≡ Some n → cond b (Some 0) (option_map suc (position test (xs ++ ys))) ≡ Some n) [
      | true ↦ λ h. h
      | false ↦ λ h. later (position test xs) (position test (xs ++ ys)) (position-more test xs ys) h
    ] (sym (position-step test x xs) ∙ e)
  where
    later : (o o' : Option ℕ) → ((m : ℕ) → o ≡ Some m → o' ≡ Some m) → option_map suc o ≡ Some n → option_map suc o' ≡ Some n
    later None o' keep h = absurd (none-some n h)
    later (Some m) o' keep h = ap (option_map suc) (keep m refl) ∙ h

-- where there is no place none passes
absent : {X : Type 0} (test : X → Bool) (xs : List X) → position test xs ≡ None → list_any test xs ≡ false
absent test [] none = refl
absent test (x ∷ xs) none =
    let Case : Bool → Type 0 = λ b. cond b (Some 0) (option_map suc (position test xs)) ≡ None → (b || list_any test xs) ≡ false in
    let case : Case (test x) = elim (test x) as Case [
      | true ↦ λ e. absurd (none-some 0 (sym e))
      | false ↦ λ e. absent test xs (no_later (position test xs) e)
    ] in
    case (sym (position-step test x xs) ∙ none)
  where
    no_later : (o : Option ℕ) → option_map suc o ≡ None → o ≡ None
    no_later None e = refl
    no_later (Some n) e = absurd (none-some (suc n) (sym e))

-- ---- pairs

same_pair-equivalence : IsEquivalence same_pair
same_pair-equivalence = record {
  refl = λ p. (pair_order.told p p).1 refl;
  symm = λ p q. (λ i. same_actor-sym p.0 q.0 i && same_actor-sym p.1 q.1 i);
  congr = λ p q r same. ap (λ x. same_pair x r) ((pair_order.told p q).0 same);
}
  where
    same_actor-sym : (a b : Actor) → same_actor a b ≡ same_actor b a
    same_actor-sym a b = grind (arith, nat_tests)

-- where a pair comes last, another has its number, or is that pair
pub position-pushed : (q p : Actor × Actor) (pairs : List (Actor × Actor)) (n : ℕ) → position (same_pair q) (pairs ++ p ∷ []) ≡ Some n → (position (same_pair q) pairs ≡ Some n) ⊎ ((q ≡ p) × (length pairs ≡ n))
position-pushed q p pairs n there =
    let Either : Type 0 = (position (same_pair q) pairs ≡ Some n) ⊎ ((q ≡ p) × (length pairs ≡ n)) in
    let Case : Option ℕ → Type 0 = λ o. position (same_pair q) pairs ≡ o → Either in
    let case : Case (position (same_pair q) pairs) = elim (position (same_pair q) pairs) as Case [
      | Some m ↦ λ was. inl (was ∙ sym (position-more (same_pair q) pairs (p ∷ []) m was) ∙ there)
      | None ↦ λ was. (
          let Same : Bool → Type 0 = λ b. same_pair q p ≡ b → Either in
          let same : Same (same_pair q p) = elim (same_pair q p) as Same [
            | true ↦ λ t. (
                let number : Some (length pairs) ≡ Some n = sym (position-last (same_pair q) pairs p (absent (same_pair q) pairs was) t) ∙ there in
                inr ((pair_order.told q p).0 t, (cc))
                )
            | false ↦ λ t. absurd (none-some n (sym was ∙ sym (position-before (same_pair q) pairs p t) ∙ there))
          ] in
          same refl
          )
    ] in
    case refl

-- a pair has the number at which it stands, and no other
pub number-at : (p : Actor × Actor) (pairs : List (Actor × Actor)) (n : ℕ) (d : Actor × Actor) → IsDistinct same_pair pairs → n < length pairs → Decides (same_pair (get_or pairs n d) p) (position (same_pair p) pairs ≡ Some n)
unfolding IsDistinct
number-at p pairs n d distinct inside =
    (there pairs n distinct inside, λ e. same_pair-equivalence.symm (get_or pairs n d) p ∙ ap (λ q. same_pair p q) (get_or_default pairs n d p inside) ∙ (position-Some (same_pair p) pairs n p e).1)
  where
    there : (pairs : List (Actor × Actor)) (n : ℕ) → IsDistinct same_pair pairs → n < length pairs → same_pair (get_or pairs n d) p ≡ true → position (same_pair p) pairs ≡ Some n
    there [] n distinct inside same = absurd (omega arith)
    there (q ∷ pairs) zero distinct inside same =
        position-step (same_pair p) q pairs ∙ ap (λ b. cond b (Some 0) (option_map suc (position (same_pair p) pairs))) (same_pair-equivalence.symm p q ∙ same)
    there (q ∷ pairs) (suc n) distinct inside same =
        let is : get_or pairs n d ≡ p = (pair_order.told (get_or pairs n d) p).0 same in
        let apart : same_pair p q ≡ false = same_pair-equivalence.symm p q ∙ ap (same_pair q) (sym is) ∙ all-at (λ x. same_pair q x ≡ false) pairs n distinct.0 (omega arith) in
        position-step (same_pair p) q pairs ∙ (λ i. cond (apart i) (Some 0) (option_map suc (there pairs n distinct.1 (omega arith) same i)))
      where
        all-at : (P : Actor × Actor → Type 0) (xs : List (Actor × Actor)) (k : ℕ) → AllByRecursion P xs → k < length xs → P (get_or xs k d)
        all-at P [] k all less = absurd (omega arith)
        all-at P (x ∷ xs) zero all less = all.0
        all-at P (x ∷ xs) (suc k) all less = all-at P xs k all.1 (omega arith)

-- ---- numbers of a list

-- what stands in a list is one of it
pub among-at : {A : Type 0} (xs : List A) (k : ℕ) (d : A) → k < length xs → IsAmong (get_or xs k d) xs
among-at [] k d inside = absurd (omega arith)
among-at (x ∷ xs) zero d inside = inl refl
among-at (x ∷ xs) (suc k) d inside = inr (among-at xs k d (omega arith))

-- ---- a list of distinct pairs

-- a pair that is not there comes last
pub distinct-pushed : (p : Actor × Actor) (pairs : List (Actor × Actor)) → position (same_pair p) pairs ≡ None → IsDistinct same_pair pairs → IsDistinct same_pair (pairs ++ p ∷ [])
distinct-pushed p pairs new distinct = IsDistinct-push same_pair-equivalence pairs p distinct (absent (same_pair p) pairs new)

-- only the first are kept
pub distinct-taken : (n : ℕ) (pairs : List (Actor × Actor)) → IsDistinct same_pair pairs → IsDistinct same_pair (take n pairs)
unfolding IsDistinct
distinct-taken zero pairs distinct = tt
distinct-taken (suc n) [] distinct = tt
distinct-taken (suc n) (p ∷ pairs) distinct = (all-taken n pairs distinct.0, distinct-taken n pairs distinct.1)
  where
    all-taken : (n : ℕ) (xs : List (Actor × Actor)) → AllByRecursion (λ x. same_pair p x ≡ false) xs → AllByRecursion (λ x. same_pair p x ≡ false) (take n xs)
    all-taken zero xs all = tt
    all-taken (suc n) [] all = tt
    all-taken (suc n) (x ∷ xs) all = (all.0, all-taken n xs all.1)
