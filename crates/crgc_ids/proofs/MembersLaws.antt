-- The members of lists that are joined or filtered.
use Rattle.std.proofs.Common.{◌≡◌, ◌&&◌, ◌||◌, ◌<◌, ◌≤◌, ◌+◌, ◌⊎◌, ℕ, zero, suc, Bool, true, false, cond, List, [], ◌∷◌, ◌++◌, length, refl, sym, ◌∙◌, ap, subst, inl, inr, arith}
use Rattle.std.proofs.lemmas.Bool.{cases_lt, false≢true}
use Rattle.std.specs.List.{AllByRecursion, filter, list_all, list_any, range_with_len}
use Rattle.crgc_ids.specs.Members.{IsAmong}

module _ {A : Type 0} where
  pub IsAmong-append_left : (x : A) (xs ys : List A) → IsAmong x xs → IsAmong x (xs ++ ys)
  IsAmong-append_left x [] ys h = absurd h
  IsAmong-append_left x (z ∷ xs) ys (inl e) = inl e
  IsAmong-append_left x (z ∷ xs) ys (inr h) = inr (IsAmong-append_left x xs ys h)

  pub IsAmong-append_right : (x : A) (xs ys : List A) → IsAmong x ys → IsAmong x (xs ++ ys)
  IsAmong-append_right x [] ys h = h
  IsAmong-append_right x (z ∷ xs) ys h = inr (IsAmong-append_right x xs ys h)

  -- a member of two joined lists is a member of one of them
  pub IsAmong-append_cases : (x : A) (xs ys : List A) → IsAmong x (xs ++ ys) → IsAmong x xs ⊎ IsAmong x ys
  IsAmong-append_cases x [] ys h = inr h
  IsAmong-append_cases x (z ∷ xs) ys (inl e) = inl (inl e)
  IsAmong-append_cases x (z ∷ xs) ys (inr h) =
      elim (IsAmong-append_cases x xs ys h) [ inl k ↦ inl (inr k) | inr k ↦ inr k ]

  -- where two joined lists are empty, the first is
  pub append-empty : (xs ys : List A) → xs ++ ys ≡ [] → xs ≡ []
  append-empty [] ys e = refl
  append-empty (x ∷ xs) ys e = absurd (cc)

  -- a member that passes the test stays
  pub IsAmong-filter : (p : A → Bool) (x : A) (xs : List A) → IsAmong x xs → p x ≡ true → IsAmong x (filter p xs)
  IsAmong-filter p x [] h t = absurd h
  IsAmong-filter p x (y ∷ ys) (inl e) t =
      subst (λ b. IsAmong x (cond b (y ∷ filter p ys) (filter p ys))) (sym t ∙ ap p e) (inl e)
  IsAmong-filter p x (y ∷ ys) (inr h) t =
      let k = IsAmong-filter p x ys h t in
      elim (p y) as (λ b. IsAmong x (cond b (y ∷ filter p ys) (filter p ys))) [ true ↦ inr k | false ↦ k ]

  -- what stays was a member, and passes the test
  pub IsAmong-from_filter : (p : A → Bool) (x : A) (xs : List A) → IsAmong x (filter p xs) → IsAmong x xs × (p x ≡ true)
  IsAmong-from_filter p x [] h = absurd h
  IsAmong-from_filter p x (y ∷ ys) h =
      let Kept : Bool → Type 0 = λ b. p y ≡ b → IsAmong x (cond b (y ∷ filter p ys) (filter p ys)) → IsAmong x (y ∷ ys) × (p x ≡ true) in
      let later : IsAmong x (filter p ys) → IsAmong x (y ∷ ys) × (p x ≡ true) = λ k. (inr (IsAmong-from_filter p x ys k).0, (IsAmong-from_filter p x ys k).1) in
      let kept : Kept (p y) = elim (p y) as Kept [
        | true ↦ λ t k. elim k [ inl e ↦ (inl e, ap p e ∙ t) | inr m ↦ later m ]
        | false ↦ λ t k. later k
      ] in
      kept refl h

  -- a filter takes nothing away, or leaves a shorter list
  pub filter_shortens : (p : A → Bool) (xs : List A) → (filter p xs ≡ xs) ⊎ (length (filter p xs) < length xs)
  filter_shortens p [] = inl refl
  filter_shortens p (y ∷ ys) =
      let Short : List A → Type 0 = λ zs. (zs ≡ y ∷ ys) ⊎ (length zs < length (y ∷ ys)) in
      let shorter = filter_shortens p ys in
      let kept : Short (y ∷ filter p ys) = elim shorter [ inl e ↦ inl (ap (λ zs. y ∷ zs) e) | inr l ↦ inr (omega arith) ] in
      let taken : Short (filter p ys) = elim shorter [ inl e ↦ inr (omega (arith, ap length e)) | inr l ↦ inr (omega arith) ] in
      elim (p y) as (λ b. Short (cond b (y ∷ filter p ys) (filter p ys))) [ true ↦ kept | false ↦ taken ]

  pub filter_all : (xs : List A) → filter (λ _. true) xs ≡ xs
  filter_all [] = refl
  filter_all (x ∷ xs) = ap (λ ys. x ∷ ys) (filter_all xs)

  -- two filters in turn are one
  pub filter_twice : (p q : A → Bool) (xs : List A) → filter q (filter p xs) ≡ filter (λ x. p x && q x) xs
  filter_twice p q [] = refl
  filter_twice p q (x ∷ xs) =
      let Twice : Bool → Type 0 = λ b. filter q (cond b (x ∷ filter p xs) (filter p xs)) ≡ cond (b && q x) (x ∷ filter (λ y. p y && q y) xs) (filter (λ y. p y && q y) xs) in
      elim (p x) as Twice [
        | true ↦ ap (λ ys. cond (q x) (x ∷ ys) ys) (filter_twice p q xs)
        | false ↦ filter_twice p q xs
      ]

  pub list_any-true : (p : A → Bool) (xs : List A) → list_any p xs ≡ true → (x : A) × IsAmong x xs × (p x ≡ true)
  list_any-true p [] t = absurd (false≢true t)
  list_any-true p (y ∷ ys) t =
      let Found : Bool → Type 0 = λ b. p y ≡ b → (b || list_any p ys) ≡ true → (x : A) × IsAmong x (y ∷ ys) × (p x ≡ true) in
      let found : Found (p y) = elim (p y) as Found [
        | true ↦ λ e _. (y, inl refl, e)
        | false ↦ λ _ r. (let later = list_any-true p ys r in (later.0, inr later.1, later.2))
      ] in
      found refl t

  pub list_any-member : (p : A → Bool) (x : A) (xs : List A) → IsAmong x xs → p x ≡ true → list_any p xs ≡ true
  list_any-member p x [] h t = absurd h
  list_any-member p x (y ∷ ys) (inl e) t = ap (λ b. b || list_any p ys) (sym (ap p e) ∙ t)
  list_any-member p x (y ∷ ys) (inr h) t =
      let later = list_any-member p x ys h t in
      elim (p y) as (λ b. (b || list_any p ys) ≡ true) [ true ↦ refl | false ↦ later ]

  pub list_all-true : (p : A → Bool) (x : A) (xs : List A) → list_all p xs ≡ true → IsAmong x xs → p x ≡ true
  list_all-true p x [] t h = absurd h
  list_all-true p x (y ∷ ys) t h =
      let All : Bool → Type 0 = λ b. p y ≡ b → (b && list_all p ys) ≡ true → p x ≡ true in
      let all : All (p y) = elim (p y) as All [
        | true ↦ λ e r. elim h [ inl same ↦ ap p same ∙ e | inr later ↦ list_all-true p x ys r later ]
        | false ↦ λ _ r. absurd (false≢true r)
      ] in
      all refl t

  pub list_all-members : (p : A → Bool) (xs : List A) → ((x : A) → IsAmong x xs → p x ≡ true) → list_all p xs ≡ true
  list_all-members p [] h = refl
  list_all-members p (y ∷ ys) h =
      ap (λ b. b && list_all p ys) (h y (inl refl)) ∙ list_all-members p ys (λ x k. h x (inr k))

  -- what follows from what is so of each item is so of each
  pub all-implied : (P Q : A → Type 0) → ((x : A) → P x → Q x) → (xs : List A) → AllByRecursion P xs → AllByRecursion Q xs
  all-implied P Q implies [] all = tt
  all-implied P Q implies (x ∷ xs) all = (implies x all.0, all-implied P Q implies xs all.1)

  -- what is so of each member is so of all
  pub all-from_members : (P : A → Type 0) (xs : List A) → ((x : A) → IsAmong x xs → P x) → AllByRecursion P xs
  all-from_members P [] h = tt
  all-from_members P (x ∷ xs) h = (h x (inl refl), all-from_members P xs (λ y m. h y (inr m)))

  -- what is so of all members is so of each
  pub all-member : (P : A → Type 0) (x : A) (xs : List A) → AllByRecursion P xs → IsAmong x xs → P x
  all-member P x [] all h = absurd h
  all-member P x (y ∷ ys) all (inl e) = subst P (sym e) all.0
  all-member P x (y ∷ ys) all (inr h) = all-member P x ys all.1 h

-- a number is among the n numbers from a on exactly where it is in their range
pub IsAmong-range : (k a n : ℕ) → a ≤ k → k < a + n → IsAmong k (range_with_len a n)
IsAmong-range k a zero h l = absurd (omega arith)
IsAmong-range k a (suc n) h l =
    elim (cases_lt a k) [ inl less ↦ inr (IsAmong-range k (a + 1) n (omega arith) (omega arith)) | inr most ↦ inl (omega arith) ]

pub IsAmong-from_range : (k a n : ℕ) → IsAmong k (range_with_len a n) → (a ≤ k) × (k < a + n)
IsAmong-from_range k a zero h = absurd h
IsAmong-from_range k a (suc n) (inl e) = (omega arith, omega arith)
IsAmong-from_range k a (suc n) (inr h) =
    let later = IsAmong-from_range k (a + 1) n h in
    (omega arith, omega arith)
