-- The members of a set of nodes, one after the other.
use Rattle.std.proofs.Common.{◌≡◌, ◌<◌, ◌≤◌, ◌+◌, ℕ, cond, List, [], ◌∷◌, ◌++◌, append_assoc, append-nil, map, nat_lt, Option, Some, None, inl, inr, refl, sym, ◌∙◌, ap, subst, arith}
use Rattle.std.proofs.lemmas.Bool.{cases_lt, le-ltb, lt-ltb}
use Rattle.std.proofs.lemmas.Grind.{flat_map-append}
use Rattle.std.proofs.lemmas.List.{map-append}
use Rattle.std.proofs.lemmas.Option.{none-some, same_Some}
use Rattle.std.specs.Fmt.{decimal}
use Rattle.std.specs.List.{AllByRecursion}
use Rattle.std.specs.Option.{IfSome}
use Rattle.crgc_ids.specs.Members.{IsAmong}
use Rattle.crgc_ids.specs.Rising.{IsRising}
use Rattle.event_lines.specs.Words.{spaced}

-- the members below n of a rising list
abbrev pub below : ℕ → List ℕ → List ℕ
below n [] = []
below n (x ∷ xs) = cond (nat_lt x n) (x ∷ below n xs) []

pub below-none : (xs : List ℕ) → below 0 xs ≡ []
below-none [] = refl
below-none (x ∷ xs) = rw (le-ltb x 0 (omega arith)) refl

pub below-all : (n : ℕ) (xs : List ℕ) → AllByRecursion (λ k. k < n) xs → below n xs ≡ xs
below-all n [] h = refl
below-all n (x ∷ xs) h = rw (lt-ltb x n h.0) (ap (λ l. x ∷ l) (below-all n xs h.1))

below-late : (n : ℕ) (xs : List ℕ) → AllByRecursion (λ k. n ≤ k) xs → below n xs ≡ []
below-late n [] h = refl
below-late n (x ∷ xs) h = rw (le-ltb x n h.0) refl

above-all : (x n : ℕ) (xs : List ℕ) → n ≤ x → AllByRecursion (λ k. x < k) xs → AllByRecursion (λ k. n ≤ k) xs
above-all x n [] l h = tt
above-all x n (y ∷ ys) l h = (omega (arith, h.0), above-all x n ys l h.1)

above-next : (x n : ℕ) (xs : List ℕ) → n ≤ x → AllByRecursion (λ k. x < k) xs → AllByRecursion (λ k. n + 1 ≤ k) xs
above-next x n [] l h = tt
above-next x n (y ∷ ys) l h = (omega (arith, h.0), above-next x n ys l h.1)

among-above : (x n : ℕ) (xs : List ℕ) → AllByRecursion (λ k. x < k) xs → IsAmong n xs → x < n
among-above x n [] h a = absurd a
among-above x n (y ∷ ys) h (inl e) = omega (arith, h.0)
among-above x n (y ∷ ys) h (inr a) = among-above x n ys h.1 a

-- a member comes next
pub below-member : (n : ℕ) (xs : List ℕ) → IsRising ◌<◌ xs → IsAmong n xs → below (n + 1) xs ≡ below n xs ++ n ∷ []
below-member n [] r a = absurd a
below-member n (x ∷ xs) r (inl e) =
    let late = below-late (n + 1) xs (above-next x n xs (omega arith) r.0) in
    rw (lt-ltb x (n + 1) (omega arith), le-ltb x n (omega arith), late) (ap (λ v. v ∷ []) (sym e))
below-member n (x ∷ xs) r (inr a) =
    let l = among-above x n xs r.0 a in
    rw (lt-ltb x (n + 1) (omega arith), lt-ltb x n l) (ap (λ t. x ∷ t) (below-member n xs r.1 a))

-- what is no member does not
pub below-other : (n : ℕ) (xs : List ℕ) → IsRising ◌<◌ xs → ¬ IsAmong n xs → below (n + 1) xs ≡ below n xs
below-other n [] r a = refl
below-other n (x ∷ xs) r a =
    elim (cases_lt x n) [
      | inl l ↦ rw (lt-ltb x (n + 1) (omega arith), lt-ltb x n l) (ap (λ t. x ∷ t) (below-other n xs r.1 (λ m. a (inr m))))
      | inr l ↦
          let other : x ≡ n → ⊥ = λ e. a (inl (sym e)) in
          rw (le-ltb x (n + 1) (omega arith), le-ltb x n l) refl
    ]

-- one member more is written
pub members-more : (old out new xs : List ℕ) (n k : ℕ) → k ≡ n → IsRising ◌<◌ xs → IsAmong k xs → out ≡ old ++ spaced (map decimal (below n xs)) → new ≡ out ++ 32 ∷ decimal k → new ≡ old ++ spaced (map decimal (below (n + 1) xs))
members-more old out new xs n k same rising member before now =
    let next = below-member n xs rising (subst (λ (i : ℕ). IsAmong i xs) same member) in
    rw (now, before, same, next) (simp (map-append, flat_map-append, append_assoc, append-nil))

-- the node that was asked for is the one that was made
pub made-same : (r : Option ℕ) (k n : ℕ) → r ≡ Some k → IfSome r (λ x. x ≡ n) → k ≡ n
made-same None k n e h = absurd (none-some k e)
made-same (Some x) k n e h = sym (same_Some x k e) ∙ h
