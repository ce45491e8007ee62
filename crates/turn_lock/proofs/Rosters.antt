-- Lists of views of which one changes or one is added.
use Rattle.std.proofs.Common.{◌≡◌, ◌≢◌, ◌⊎◌, ℕ, zero, suc, ◌+◌, ◌≤◌, List, [], ◌∷◌, ◌++◌, length, set, refl, sym, ap, ◌∙◌, subst, inl, inr, ⊎_elim, arith}
use mathlib.Core.Option.{some, some-ne-none, some-injective}
use lib.ListN.{get_elem?}
use Rattle.atomic_table.proofs.Lists.{at_set, at_snoc}
use Rattle.turn_lock.specs.Rule.{total, Apart}

module _ {V : Type 0} where
  -- one place has one view
  pub one_at : (views : List V) (i j : ℕ) (u v : V) → i ≡ j → get_elem? views i ≡ some u → get_elem? views j ≡ some v → u ≡ v
  one_at views i j u v same at_i at_j = some-injective u v (sym at_i ∙ (ap (get_elem? views) same ∙ at_j))

  pub only : (v u : V) (j : ℕ) → get_elem? (v ∷ []) j ≡ some u → (j ≡ 0) × (v ≡ u)
  only v u zero at = (refl, some-injective v u at)
  only v u (suc j) at = absurd (some-ne-none u (sym at))

  pub set_at : (views : List V) (id : ℕ) (v w : V) → get_elem? views id ≡ some v → get_elem? (set views id w) id ≡ some w
  set_at [] id v w at = absurd (some-ne-none v (sym at))
  set_at (x ∷ xs) zero v w at = refl
  set_at (x ∷ xs) (suc id) v w at = set_at xs id v w at

  pub total_set : (f : V → ℕ) (views : List V) (id : ℕ) (v w : V) → get_elem? views id ≡ some v → total f (set views id w) + f v ≡ total f views + f w
  total_set f [] id v w at = absurd (some-ne-none v (sym at))
  total_set f (x ∷ xs) zero v w at = let e : f x ≡ f v = ap f (some-injective x v at) in omega arith
  total_set f (x ∷ xs) (suc id) v w at = let e = total_set f xs id v w at in omega arith

  pub total_snoc : (f : V → ℕ) (views : List V) (w : V) → total f (views ++ w ∷ []) ≡ total f views + f w
  total_snoc f [] w = omega arith
  total_snoc f (x ∷ xs) w = let e = total_snoc f xs w in omega arith

  one_in_total : (f : V → ℕ) (views : List V) (i : ℕ) (u : V) → get_elem? views i ≡ some u → f u ≤ total f views
  one_in_total f [] i u at = absurd (some-ne-none u (sym at))
  one_in_total f (x ∷ xs) zero u at = let e : f x ≡ f u = ap f (some-injective x u at) in omega arith
  one_in_total f (x ∷ xs) (suc i) u at = let e = one_in_total f xs i u at in omega arith

  -- two places count twice
  pub two_in_total : (f : V → ℕ) (views : List V) (i j : ℕ) (u v : V) → get_elem? views i ≡ some u → get_elem? views j ≡ some v → i ≢ j → f u + f v ≤ total f views
  two_in_total f [] i j u v at_i at_j apart = absurd (some-ne-none u (sym at_i))
  two_in_total f (x ∷ xs) zero zero u v at_i at_j apart = absurd (apart refl)
  two_in_total f (x ∷ xs) zero (suc j) u v at_i at_j apart = let e : f x ≡ f u = ap f (some-injective x u at_i) in let t = one_in_total f xs j v at_j in omega arith
  two_in_total f (x ∷ xs) (suc i) zero u v at_i at_j apart = let e : f x ≡ f v = ap f (some-injective x v at_j) in let t = one_in_total f xs i u at_i in omega arith
  two_in_total f (x ∷ xs) (suc i) (suc j) u v at_i at_j apart = let t = two_in_total f xs i j u v at_i at_j (λ e. apart (ap suc e)) in omega arith

  pub total_le : (f g : V → ℕ) (views : List V) → ((j : ℕ) (v : V) → get_elem? views j ≡ some v → f v ≤ g v) → total f views ≤ total g views
  total_le f g [] below = omega arith
  total_le f g (x ∷ xs) below = let here : f x ≤ g x = below zero x refl in let t = total_le f g xs (λ j v at. below (suc j) v at) in omega arith

  at_end : (views : List V) (w u : V) (j : ℕ) → get_elem? (views ++ w ∷ []) j ≡ some u → (get_elem? views j ≡ some u) ⊎ ((j ≡ length views) × (w ≡ u))
  at_end [] w u zero at = inr (refl, some-injective w u at)
  at_end [] w u (suc j) at = absurd (some-ne-none u (sym at))
  at_end (x ∷ xs) w u zero at = inl at
  at_end (x ∷ xs) w u (suc j) at = ⊎_elim (λ t. inl t) (λ t. inr (ap suc t.0, t.1)) (at_end xs w u j at)

  -- a fact of each view, where one changes, and where one is added
  pub one_set : (F : V → Type 0) (views : List V) (id : ℕ) (w : V) (j : ℕ) (u : V) → (j ≢ id → get_elem? views j ≡ some u → F u) → F w → get_elem? (set views id w) j ≡ some u → F u
  one_set F views id w j u others mine at = ⊎_elim (λ (t : (j ≡ id) × (w ≡ u)). subst F t.1 mine) (λ (t : (j ≢ id) × (get_elem? views j ≡ some u)). others t.0 t.1) (at_set views id j w u at)

  pub each_set : (F : V → Type 0) (views : List V) (id : ℕ) (w : V) → ((j : ℕ) (u : V) → j ≢ id → get_elem? views j ≡ some u → F u) → F w → (j : ℕ) (u : V) → get_elem? (set views id w) j ≡ some u → F u
  each_set F views id w others mine j u at = one_set F views id w j u (others j u) mine at

  pub each_snoc : (F : V → Type 0) (views : List V) (w : V) → ((j : ℕ) (u : V) → get_elem? views j ≡ some u → F u) → F w → (j : ℕ) (u : V) → get_elem? (views ++ w ∷ []) j ≡ some u → F u
  each_snoc F views w others mine j u at = ⊎_elim (λ t. others j u t) (λ (t : w ≡ u). subst F t mine) (at_snoc views w u j at)

  module _ (flag key : V → ℕ) where
    -- the new view's key is no other's
    pub Apart_set : (views : List V) (id : ℕ) (w : V) → Apart flag key views → ((j : ℕ) (u : V) → j ≢ id → get_elem? views j ≡ some u → flag u ≡ 1 → flag w ≡ 1 → key u ≢ key w) → Apart flag key (set views id w)
    Apart_set views id w apart new i j u v at_i at_j flag_u flag_v same = ⊎_elim
        (λ (s : (i ≡ id) × (w ≡ u)). ⊎_elim
        (λ (t : (j ≡ id) × (w ≡ v)). s.0 ∙ sym t.0)
        (λ (t : (j ≢ id) × (get_elem? views j ≡ some v)). absurd (new j v t.0 t.1 flag_v (ap flag s.1 ∙ flag_u) (sym same ∙ sym (ap key s.1))))
        (at_set views id j w v at_j))
        (λ (s : (i ≢ id) × (get_elem? views i ≡ some u)). ⊎_elim
        (λ (t : (j ≡ id) × (w ≡ v)). absurd (new i u s.0 s.1 flag_u (ap flag t.1 ∙ flag_v) (same ∙ sym (ap key t.1))))
        (λ (t : (j ≢ id) × (get_elem? views j ≡ some v)). apart i j u v s.1 t.1 flag_u flag_v same)
        (at_set views id j w v at_j))
        (at_set views id i w u at_i)

    pub Apart_snoc : (views : List V) (w : V) → Apart flag key views → ((j : ℕ) (u : V) → get_elem? views j ≡ some u → flag u ≡ 1 → flag w ≡ 1 → key u ≢ key w) → Apart flag key (views ++ w ∷ [])
    Apart_snoc views w apart new i j u v at_i at_j flag_u flag_v same = ⊎_elim
        (λ (s : get_elem? views i ≡ some u). ⊎_elim
        (λ (t : get_elem? views j ≡ some v). apart i j u v s t flag_u flag_v same)
        (λ (t : (j ≡ length views) × (w ≡ v)). absurd (new i u s flag_u (ap flag t.1 ∙ flag_v) (same ∙ sym (ap key t.1))))
        (at_end views w v j at_j))
        (λ (s : (i ≡ length views) × (w ≡ u)). ⊎_elim
        (λ (t : get_elem? views j ≡ some v). absurd (new j v t flag_v (ap flag s.1 ∙ flag_u) (sym same ∙ sym (ap key s.1))))
        (λ (t : (j ≡ length views) × (w ≡ v)). s.0 ∙ sym t.0)
        (at_end views w v j at_j))
        (at_end views w u i at_i)
