-- What several steps use about lists: what is true of all members, members of joined lists, and tallies.
use Rattle.std.proofs.Common.{◌≡◌, ◌<◌, ◌≤◌, ◌+◌, ℕ, zero, suc, Bool, true, false, cond, List, [], ◌∷◌, ◌++◌, map, drop, slice_get, option_to_list, flat_map, refl, sym, subst, inl, inr, arith, length}
use Rattle.std.proofs.lemmas.Bool.{false≢true}
use Rattle.crgc_ids.specs.Members.{IsAmong}
use Rattle.crgc_ids.proofs.MembersLaws.{IsAmong-append_cases, IsAmong-append_left, IsAmong-append_right}
use Rattle.history_model.specs.Tally.{tally}

-- ---- all members

module _ {A : Type 0} where
  -- a predicate of all members
  abbrev pub Each : (A → Type 0) → List A → Type 0
  Each P xs = (x : A) → IsAmong x xs → P x

  -- it holds of all members of no list, and of a longer list where it holds of the first and of the rest
  pub each-none : (P : A → Type 0) → Each P []
  each-none P x among = absurd among

  pub each-more : (P : A → Type 0) (x : A) (xs : List A) → P x → Each P xs → Each P (x ∷ xs)
  each-more P x xs first rest y (inl e) = subst P (sym e) first
  each-more P x xs first rest y (inr among) = rest y among

  -- a list of one
  pub each-one : (P : A → Type 0) (x : A) → P x → Each P (x ∷ [])
  each-one P x first = each-more P x [] first (each-none P)

  -- a member of a part is one of the list
  pub among-drop : (n : ℕ) (x : A) (xs : List A) → IsAmong x (drop n xs) → IsAmong x xs
  among-drop zero x xs among = among
  among-drop (suc n) x [] among = absurd among
  among-drop (suc n) x (y ∷ ys) among = inr (among-drop n x ys among)

  -- so is what stands at a place
  pub among-place : (k : ℕ) (x : A) (xs : List A) → IsAmong x (option_to_list (slice_get xs k)) → IsAmong x xs
  among-place k x [] among = absurd among
  among-place zero x (y ∷ ys) (inl e) = inl e
  among-place zero x (y ∷ ys) (inr none) = absurd none
  among-place (suc k) x (y ∷ ys) among = inr (among-place k x ys among)

-- a place where an item stands is one of the list
pub place-within : {A : Type 0} (xs : List A) (k : ℕ) (x : A) → option_to_list (slice_get xs k) ≡ x ∷ [] → k < length xs
place-within [] k x e = absurd (cc)
place-within (y ∷ ys) zero x e = omega arith
place-within (y ∷ ys) (suc k) x e = let later = place-within ys k x e in omega arith

-- what is true of the images of all members
pub each-map : {A B : Type 0} (P : B → Type 0) (f : A → B) (xs : List A) → Each (λ x. P (f x)) xs → Each P (map f xs)
each-map P f [] each = each-none P
each-map P f (x ∷ xs) each = each-more P (f x) (map f xs) (each x (inl refl)) (each-map P f xs (λ y among. each y (inr among)))

-- ---- joined lists

-- the members of joined lists are the members of one of them
pub IsAmong-flat_map : {X Y : Type 0} (f : X → List Y) (y : Y) (x : X) (xs : List X) → IsAmong x xs → IsAmong y (f x) → IsAmong y (flat_map f xs)
IsAmong-flat_map f y x [] h m = absurd h
IsAmong-flat_map f y x (z ∷ zs) (inl e) m = IsAmong-append_left y (f z) (flat_map f zs) (subst (λ w. IsAmong y (f w)) e m)
IsAmong-flat_map f y x (z ∷ zs) (inr h) m = IsAmong-append_right y (f z) (flat_map f zs) (IsAmong-flat_map f y x zs h m)

pub IsAmong-from_flat_map : {X Y : Type 0} (f : X → List Y) (y : Y) (xs : List X) → IsAmong y (flat_map f xs) → (x : X) × IsAmong x xs × IsAmong y (f x)
IsAmong-from_flat_map f y [] h = absurd h
IsAmong-from_flat_map f y (z ∷ zs) h =
    elim (IsAmong-append_cases y (f z) (flat_map f zs) h) [
      | inl here ↦ (z, inl refl, here)
      | inr later ↦ (let found = IsAmong-from_flat_map f y zs later in (found.0, inr found.1, found.2))
    ]

-- ---- tallies

-- joined lists count what both count
pub tally-append : {X : Type 0} (test : X → Bool) (xs ys : List X) → tally test (xs ++ ys) ≡ tally test xs + tally test ys
tally-append test [] ys = omega arith
tally-append test (x ∷ xs) ys =
    let before = tally-append test xs ys in
    elim (test x) as (λ v. cond v (tally test (xs ++ ys) + 1) (tally test (xs ++ ys)) ≡ cond v (tally test xs + 1) (tally test xs) + tally test ys) [
      | true ↦ omega arith
      | false ↦ before
    ]

-- one item more counts, or not
pub tally-one : {X : Type 0} (test : X → Bool) (x : X) (xs : List X) → tally test (x ∷ xs) ≡ tally test xs + cond (test x) 1 0
tally-one test x xs = elim (test x) as (λ v. cond v (tally test xs + 1) (tally test xs) ≡ tally test xs + cond v 1 0) [ true ↦ omega arith | false ↦ omega arith ]

-- it counts no less
pub tally-more : {X : Type 0} (test : X → Bool) (x : X) (xs : List X) → tally test xs ≤ tally test (x ∷ xs)
tally-more test x xs = omega (arith, tally-append test (x ∷ []) xs)

-- what is counted at all is there
pub tally-some : {X : Type 0} (test : X → Bool) (xs : List X) → 0 < tally test xs → (x : X) × IsAmong x xs × (test x ≡ true)
tally-some test [] l = absurd (omega arith)
tally-some {X} test (y ∷ ys) l =
    let later : 0 < tally test ys → (x : X) × IsAmong x (y ∷ ys) × (test x ≡ true) =
    λ m. (let found = tally-some test ys m in (found.0, inr found.1, found.2)) in
    let Found : Bool → Type 0 = λ v. test y ≡ v → 0 < cond v (tally test ys + 1) (tally test ys) → (x : X) × IsAmong x (y ∷ ys) × (test x ≡ true) in
    let found : Found (test y) = elim (test y) as Found [ true ↦ λ t _. (y, inl refl, t) | false ↦ λ _ m. later m ] in
    found refl l

-- what passes the first test passes the second: no more pass the first
pub tally-implies : {X : Type 0} (s t : X → Bool) (xs : List X) → ((x : X) → IsAmong x xs → s x ≡ true → t x ≡ true) → tally s xs ≤ tally t xs
tally-implies s t [] h = omega arith
tally-implies s t (x ∷ xs) h =
    let later = tally-implies s t xs (λ y m. h y (inr m)) in
    let Less : Bool → Bool → Type 0 = λ v w. (v ≡ true → w ≡ true) → cond v (tally s xs + 1) (tally s xs) ≤ cond w (tally t xs + 1) (tally t xs) in
    let less : Less (s x) (t x) = elim (s x) as (λ v. Less v (t x)) [
      | true ↦ elim (t x) as (λ w. Less true w) [ true ↦ λ _. omega arith | false ↦ λ i. absurd (false≢true (i refl)) ]
      | false ↦ elim (t x) as (λ w. Less false w) [ true ↦ λ _. omega arith | false ↦ λ _. later ]
    ] in
    less (h x (inl refl))

module _ {A : Type 0} where
  -- tests that agree on all members count alike
  pub tally-same : (test other : A → Bool) (xs : List A) → Each (λ x. test x ≡ other x) xs → tally test xs ≡ tally other xs
  tally-same test other [] each = refl
  tally-same test other (x ∷ xs) each =
      let rest = tally-same test other xs (λ y among. each y (inr among)) in
      rw (each x (inl refl), rest) refl

  -- a test that no member passes counts nothing
  pub tally-none : (test : A → Bool) (xs : List A) → Each (λ x. test x ≡ false) xs → tally test xs ≡ 0
  tally-none test [] each = refl
  tally-none test (x ∷ xs) each = rw (each x (inl refl)) (tally-none test xs (λ y among. each y (inr among)))
