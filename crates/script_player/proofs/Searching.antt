-- Searches over ranges of numbers: what is found first.
use Rattle.std.proofs.Common.{◌≡◌, ◌+◌, ◌<◌, ◌≤◌, ℕ, zero, suc, Bool, true, false, cond, List, [], ◌∷◌, ◌++◌, map, flat_map, option_to_list, Option, Some, None, refl, sym, ◌∙◌, ap, arith}
use Rattle.std.specs.List.{cons_option, filter_map, find, range_with_len}
use Rattle.std.specs.Option.{option_or}
use Rattle.std.proofs.lemmas.List.Folds.{find-append}
use Rattle.std.proofs.lemmas.Option.{none-some, same_Some}
use Rattle.run_model.proofs.Numbers.{order-cases}

module _ {X : Type 0} (test : X → Bool) where
  -- nothing is found in either list
  pub none-both : (xs ys : List X) → find test xs ≡ None → find test ys ≡ None → find test (xs ++ ys) ≡ None
  none-both xs ys first rest = find-append test xs ys ∙ ap (λ v. option_or v (find test ys)) first ∙ rest

  -- nothing is found where no member passes
  pub passes-none : (xs : List X) → ((x : X) → test x ≡ true → ⊥) → find test xs ≡ None
  passes-none [] never = refl
  passes-none (x ∷ xs) never =
      elim (test x) as (λ v. test x ≡ v → cond v (Some x) (find test xs) ≡ None) [
        | true ↦ λ passes. absurd (never x passes)
        | false ↦ λ _. passes-none xs never
      ] refl

  -- a list of one
  pub one-passes : (x : X) → test x ≡ true → find test (x ∷ []) ≡ Some x
  one-passes x passes = rw passes refl

  pub one-fails : (x : X) → test x ≡ false → find test (x ∷ []) ≡ None
  one-fails x fails = rw fails refl

  -- what is found in a list of one is its member
  pub found-one : (x y : X) → find test (x ∷ []) ≡ Some y → x ≡ y
  found-one x y =
      elim (test x) as (λ v. cond v (Some x) None ≡ Some y → x ≡ y) [
        | true ↦ λ same. same_Some x y same
        | false ↦ λ none. absurd (none-some y none)
      ]

  -- what is found in joined lists is found in one of them
  pub found-in : {Y : Type 0} (g : Y → List X) (P : X → Type 0) → ((y : Y) (x : X) → find test (g y) ≡ Some x → P x) → (ys : List Y) (x : X) → find test (flat_map g ys) ≡ Some x → P x
  found-in g P each [] x e = absurd (none-some x e)
  found-in g P each (y ∷ ys) x e =
      elim (find test (g y)) as (λ v. find test (g y) ≡ v → option_or v (find test (flat_map g ys)) ≡ Some x → P x) [
        | None ↦ λ _ later. found-in g P each ys x later
        | Some z ↦ λ first here. each y x (first ∙ here)
      ] refl (sym (find-append test (g y) (flat_map g ys)) ∙ e)

  module _ (g : ℕ → List X) where
    -- the lists of none of these numbers have one that passes
    pub none-in : (n i : ℕ) → ((k : ℕ) → i ≤ k → k < i + n → find test (g k) ≡ None) → find test (flat_map g (range_with_len i n)) ≡ None
    none-in zero i none = refl
    none-in (suc n) i none =
        none-both (g i) (flat_map g (range_with_len (i + 1) n)) (none i (omega arith) (omega arith))
        (none-in n (i + 1) (λ k above below. none k (omega (arith, above)) (omega (arith, below))))

    -- the list of j is the first that has one
    pub first-in : (n i j : ℕ) (x : X) → i ≤ j → j < i + n → ((k : ℕ) → i ≤ k → k < j → find test (g k) ≡ None) → find test (g j) ≡ Some x → find test (flat_map g (range_with_len i n)) ≡ Some x
    first-in zero i j x above below none some = absurd (omega (arith, above, below))
    first-in (suc n) i j x above below none some =
        order-cases i j above (find test (flat_map g (range_with_len i (suc n))) ≡ Some x)
        (λ same. find-append test (g i) (flat_map g (range_with_len (i + 1) n))
        ∙ ap (λ v. option_or v (find test (flat_map g (range_with_len (i + 1) n)))) (ap (λ k. find test (g k)) same ∙ some))
        (λ more. find-append test (g i) (flat_map g (range_with_len (i + 1) n))
        ∙ ap (λ v. option_or v (find test (flat_map g (range_with_len (i + 1) n)))) (none i (omega arith) (omega (arith, more)))
        ∙ first-in n (i + 1) j x more (omega (arith, below)) (λ k over under. none k (omega (arith, over)) under) some)

-- lists of one or none, joined
pub filter_map-joined : {X Y : Type 0} (f : X → Option Y) (xs : List X) → filter_map f xs ≡ flat_map (λ x. option_to_list (f x)) xs
filter_map-joined f [] = refl
filter_map-joined f (x ∷ xs) =
    elim (f x) as (λ v. cons_option v (filter_map f xs) ≡ option_to_list v ++ flat_map (λ x. option_to_list (f x)) xs) [
      | None ↦ filter_map-joined f xs
      | Some y ↦ ap (λ ys. y ∷ ys) (filter_map-joined f xs)
    ]

pub map-joined : {X Y : Type 0} (f : X → Y) (xs : List X) → map f xs ≡ flat_map (λ x. f x ∷ []) xs
map-joined f [] = refl
map-joined f (x ∷ xs) = ap (λ ys. f x ∷ ys) (map-joined f xs)
