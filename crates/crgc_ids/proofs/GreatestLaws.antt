-- The laws of `greatest`.
use Rattle.std.proofs.Common.{◌≡◌, ◌≤◌, ◌&&◌, ℕ, zero, suc, Bool, true, List, [], ◌∷◌, ◌++◌, length, refl, sym, ◌∙◌, ap, subst, inl, inr, arith}
use Rattle.std.specs.List.{filter}
use Rattle.crgc_ids.specs.Greatest.{AreFit, IsMonotone, greatest, prune}
use Rattle.crgc_ids.specs.Members.{IsAmong, IsPart}
use Rattle.crgc_ids.proofs.MembersLaws.{IsAmong-append_cases, IsAmong-append_left, IsAmong-append_right, IsAmong-filter, IsAmong-from_filter, filter_all, filter_shortens, filter_twice}

module _ {A : Type 0} (fit : List A → A → Bool) where
  -- where all are fit, nothing is taken away
  pub prune-fixed : (n : ℕ) (xs : List A) → filter (fit xs) xs ≡ xs → prune fit n xs ≡ xs
  prune-fixed zero xs e = refl
  prune-fixed (suc n) xs e = ap (prune fit n) e ∙ prune-fixed n xs e

  -- after as many turns as there are members, all that are left are fit
  prune-ends : (n : ℕ) (xs : List A) → length xs ≤ n → filter (fit (prune fit n xs)) (prune fit n xs) ≡ prune fit n xs
  prune-ends zero [] h = refl
  prune-ends zero (x ∷ xs) h = absurd (omega arith)
  prune-ends (suc n) xs h =
      elim (filter_shortens (fit xs) xs) [
        | inl e ↦ subst (λ ys. filter (fit ys) ys ≡ ys) (sym (prune-fixed (suc n) xs e)) e
        | inr l ↦ prune-ends n (filter (fit xs) xs) (omega arith)
      ]

  -- what is left passes some test, in the old order
  prune-filters : (n : ℕ) (xs : List A) → (p : A → Bool) × (prune fit n xs ≡ filter p xs)
  prune-filters zero xs = (λ _. true, sym (filter_all xs))
  prune-filters (suc n) xs =
      let rest = prune-filters n (filter (fit xs) xs) in
      (λ x. fit xs x && rest.0 x, rest.1 ∙ filter_twice (fit xs) rest.0 xs)

  -- no turn takes away a member of a part that is fit for itself
  prune-keeps : IsMonotone fit → (n : ℕ) (xs ys : List A) → IsPart ys xs → AreFit fit ys → IsPart ys (prune fit n xs)
  prune-keeps mono zero xs ys part are = part
  prune-keeps mono (suc n) xs ys part are =
      prune-keeps mono n (filter (fit xs) xs) ys
      (λ y h. IsAmong-filter (fit xs) y xs (part y h) (mono ys xs y part (are y h))) are

  -- the greatest part is the list filtered by some test, so it keeps the list's order
  pub greatest-filters : (xs : List A) → (p : A → Bool) × (greatest fit xs ≡ filter p xs)
  unfolding greatest
  greatest-filters xs = prune-filters (length xs) xs

  pub greatest-part : (xs : List A) → IsPart (greatest fit xs) xs
  greatest-part xs x h =
      let test = greatest-filters xs in
      (IsAmong-from_filter test.0 x xs (subst (IsAmong x) test.1 h)).0

  -- each of its members is fit for it
  pub greatest-fit : (xs : List A) → AreFit fit (greatest fit xs)
  unfolding greatest
  greatest-fit xs x h =
      let ends = prune-ends (length xs) xs (omega arith) in
      (IsAmong-from_filter (fit (prune fit (length xs) xs)) x (prune fit (length xs) xs) (subst (IsAmong x) (sym ends) h)).1

  -- each part whose members are fit for it lies within it
  pub greatest-contains : IsMonotone fit → (xs ys : List A) → IsPart ys xs → AreFit fit ys → IsPart ys (greatest fit xs)
  unfolding greatest
  greatest-contains mono xs ys = prune-keeps mono (length xs) xs ys

  -- such parts are closed under union
  pub AreFit-append : IsMonotone fit → (xs ys : List A) → AreFit fit xs → AreFit fit ys → AreFit fit (xs ++ ys)
  AreFit-append mono xs ys f g x h =
      elim (IsAmong-append_cases x xs ys h) [
        | inl k ↦ mono xs (xs ++ ys) x (λ z. IsAmong-append_left z xs ys) (f x k)
        | inr k ↦ mono ys (xs ++ ys) x (λ z. IsAmong-append_right z xs ys) (g x k)
      ]

-- where more may stay, of a greater list, the greatest part is greater
pub greatest-grows : {A : Type 0} (fit more : List A → A → Bool) → IsMonotone more → ((xs : List A) (x : A) → fit xs x ≡ true → more xs x ≡ true) → (xs ys : List A) → IsPart xs ys → IsPart (greatest fit xs) (greatest more ys)
greatest-grows fit more mono implies xs ys part =
    greatest-contains more mono ys (greatest fit xs) (λ x h. part x (greatest-part fit xs x h)) (λ x h. implies (greatest fit xs) x (greatest-fit fit xs x h))
