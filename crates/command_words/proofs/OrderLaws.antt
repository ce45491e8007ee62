-- The orders of one element, and of two.
use Rattle.std.proofs.Common.{◌≡◌, ◌<◌, ◌⊎◌, inl, inr, ℕ, zero, suc, List, [], ◌∷◌, refl, sym, ◌∙◌, ap, subst, arith}
use Rattle.std.specs.List.{swap}
use Rattle.std.specs.List.Sorted.{IsPermutation, SwapsInRange, apply_swaps}

swap-one : {X : Type 0} (x : X) (i j : ℕ) → i < 1 → j < 1 → swap (x ∷ []) i j ≡ x ∷ []
swap-one x zero zero h k = refl
swap-one x zero (suc j) h k = absurd (omega arith)
swap-one x (suc i) j h k = absurd (omega arith)

abbrev IsEitherOrder : {X : Type 0} → X → X → List X → Type 0
IsEitherOrder x y zs = (zs ≡ x ∷ y ∷ []) ⊎ (zs ≡ y ∷ x ∷ [])

swap-two : {X : Type 0} (x y : X) (i j : ℕ) → i < 2 → j < 2 → IsEitherOrder x y (swap (x ∷ y ∷ []) i j)
swap-two x y zero zero h k = inl refl
swap-two x y zero (suc zero) h k = inr refl
swap-two x y (suc zero) zero h k = inr refl
swap-two x y (suc zero) (suc zero) h k = inl refl
swap-two x y i (suc (suc j)) h k = absurd (omega arith)
swap-two x y (suc (suc i)) j h k = absurd (omega arith)

swaps-none : {X : Type 0} (moves : List (ℕ × ℕ)) → SwapsInRange 0 moves → apply_swaps {X = X} [] moves ≡ []
swaps-none [] h = refl
swaps-none (p ∷ ps) h = absurd (omega (arith, h.0))

swaps-one : {X : Type 0} (x : X) (moves : List (ℕ × ℕ)) → SwapsInRange 1 moves → apply_swaps (x ∷ []) moves ≡ x ∷ []
swaps-one x [] h = refl
swaps-one x (p ∷ ps) h = ap (λ l. swap l p.0 p.1) (swaps-one x ps h.2) ∙ swap-one x p.0 p.1 h.0 h.1

swap-either : {X : Type 0} (x y : X) (zs : List X) (i j : ℕ) → i < 2 → j < 2 → IsEitherOrder x y zs → IsEitherOrder x y (swap zs i j)
swap-either x y zs i j h k (inl e) = subst (λ l. IsEitherOrder x y (swap l i j)) (sym e) (swap-two x y i j h k)
swap-either x y zs i j h k (inr e) = subst (λ l. IsEitherOrder x y (swap l i j)) (sym e) (elim (swap-two y x i j h k) [ inl s ↦ inr s | inr s ↦ inl s ])

swaps-two : {X : Type 0} (x y : X) (moves : List (ℕ × ℕ)) → SwapsInRange 2 moves → IsEitherOrder x y (apply_swaps (x ∷ y ∷ []) moves)
swaps-two x y [] h = inl refl
swaps-two x y (p ∷ ps) h = swap-either x y (apply_swaps (x ∷ y ∷ []) ps) p.0 p.1 h.0 h.1 (swaps-two x y ps h.2)

pub order_of_none : {X : Type 0} (ys : List X) → IsPermutation [] ys → ys ≡ []
order_of_none ys p = p.is ∙ swaps-none p.moves p.below

pub order_of_one : {X : Type 0} (x : X) (ys : List X) → IsPermutation (x ∷ []) ys → ys ≡ x ∷ []
order_of_one x ys p = p.is ∙ swaps-one x p.moves p.below

pub order_of_two : {X : Type 0} (x y : X) (zs : List X) → IsPermutation (x ∷ y ∷ []) zs → (zs ≡ x ∷ y ∷ []) ⊎ (zs ≡ y ∷ x ∷ [])
order_of_two x y zs p = subst (IsEitherOrder x y) (sym p.is) (swaps-two x y p.moves p.below)
