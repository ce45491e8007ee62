-- Tests of numbers and of options, and places of lists.
use Rattle.std.proofs.Common.{◌≡◌, ◌+◌, ◌<◌, ◌≤◌, ◌||◌, ℕ, zero, suc, Bool, true, false, List, [], ◌∷◌, ◌++◌, Option, Some, None, length, take, slice_get, ltb, refl, sym, ap, ◌∙◌, arith}
use Rattle.std.proofs.lemmas.Bool.{false≢true}
use Rattle.std.proofs.lemmas.Bool.Decides.{nat_tests}
use Rattle.std.proofs.lemmas.Option.{same_Some}
use Rattle.std.specs.Option.{is_some, unwrap_or}
use Rattle.gossip_core.specs.Gossip.{same_key}

pub below-of : (k c : ℕ) → ltb k c ≡ true → k < c
below-of k c e = grind (arith, nat_tests)

pub from-of : (k c : ℕ) → ltb k c ≡ false → c ≤ k
from-of k c e = grind (arith, nat_tests)

pub is-below : (k c : ℕ) → k < c → ltb k c ≡ true
is-below k c less = grind (arith, nat_tests)

pub is-from : (k c : ℕ) → c ≤ k → ltb k c ≡ false
is-from k c more = grind (arith, nat_tests)

-- keys that test the same are one
pub one-key : (a b o k : ℕ) → same_key (a, b) (o, k) ≡ true → (o ≡ a) × (k ≡ b)
one-key a b o k e = (grind (arith, nat_tests), grind (arith, nat_tests))

pub key-self : (a b : ℕ) → same_key (a, b) (a, b) ≡ true
key-self a b = grind (arith, nat_tests)

pub or-true : (b : Bool) → (b || true) ≡ true
or-true true = refl
or-true false = refl

pub or-false : (b : Bool) → (b || false) ≡ b
or-false true = refl
or-false false = refl

pub or-left : (b c : Bool) → b ≡ true → (b || c) ≡ true
or-left true c e = refl
or-left false c e = absurd (false≢true e)

pub or-right : (b c : Bool) → c ≡ true → (b || c) ≡ true
or-right true c e = refl
or-right false c e = e

-- neither holds where both together do not
pub or-none : (b c : Bool) → (b || c) ≡ false → (b ≡ false) × (c ≡ false)
or-none true c e = absurd (false≢true (sym e))
or-none false c e = (refl, e)

pub none-of : {X : Type 0} (o : Option X) → is_some o ≡ false → o ≡ None
none-of None e = refl
none-of (Some x) e = absurd (false≢true (sym e))

pub some-of : {X : Type 0} (o : Option X) (x : X) → is_some o ≡ true → o ≡ Some (unwrap_or o x)
some-of None x e = absurd (false≢true e)
some-of (Some y) x e = refl

-- one place more of a list
pub take-one : {X : Type 0} (k : ℕ) (xs : List X) (x : X) → slice_get xs k ≡ Some x → take (k + 1) xs ≡ take k xs ++ x ∷ []
take-one k xs x e = (let next : k + 1 ≡ suc k = omega arith in ap (λ j. take j xs) next ∙ take-next k xs x e)
  where
    take-next : {X : Type 0} (k : ℕ) (xs : List X) (x : X) → slice_get xs k ≡ Some x → take (suc k) xs ≡ take k xs ++ x ∷ []
    take-next k [] x e = absurd (cc)
    take-next zero (y ∷ ys) x e = ap (λ z. z ∷ []) (same_Some y x e)
    take-next (suc k) (y ∷ ys) x e = ap (λ zs. y ∷ zs) (take-next k ys x e)

pub place-below : {X : Type 0} (k : ℕ) (xs : List X) (x : X) → slice_get xs k ≡ Some x → k < length xs
place-below k [] x e = absurd (cc)
place-below zero (y ∷ ys) x e = omega arith
place-below (suc k) (y ∷ ys) x e = (let less = place-below k ys x e in omega arith)
