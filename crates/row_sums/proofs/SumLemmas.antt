-- Sorted rows, in which each row takes in the later ones of its key, and their counts.
use Rattle.std.proofs.Common.{◌≡◌, ◌+◌, ◌<◌, ℕ, Bool, true, false, cond, List, [], ◌∷◌, refl, sym, ◌∙◌, ap, subst, arith}
use Rattle.std.proofs.lemmas.List.Elements.{All-from_recursion, recursion_from_All}
use Rattle.std.proofs.lemmas.List.Sorted.{All-permutation, sum_by-IsPermutation}
use Rattle.std.proofs.lemmas.List.Sums.{sum_by-cons}
use Rattle.std.specs.Bool.{Decides, MatchBool}
use Rattle.std.specs.List.{AllByRecursion, sum_by}
use Rattle.std.specs.List.Retain.{DedupsAll, DedupsFrom}
use Rattle.std.specs.List.Sorted.{IsPermutation, IsSortedBy}
use Rattle.crgc_ids.specs.Rising.{IsRising}
use Rattle.crgc_ids.proofs.KeyOrders.{IsKeyOrder}
pub use Rattle.row_sums.proofs.FoldLemmas.{AtMost}
use Rattle.row_sums.proofs.FoldLemmas.{Folds, is_fold}

-- how often rows count a key
abbrev pub total : {K X : Type 0} → (K → K → Bool) → (X → K) → (X → ℕ) → K → List X → ℕ
total same key count t rows = sum_by (λ r. cond (same t (key r)) (count r) 0) rows

-- what a row does with the next one: it takes in its count, where they have one key, and the sum is below the limit
pub record TakesIn {K X : Type 0} (same : K → K → Bool) (key : X → K) (count : X → ℕ) (limit : ℕ) (next last : X) (b : Bool) (next' last' : X) : Type 0 where
  pub tells : b ≡ same (key last) (key next)
  pub passes : next' ≡ next
  pub stays : key last' ≡ key last
  pub adds : b ≡ true → count last + count next < limit → count last' ≡ count last + count next
  pub leaves : b ≡ false → last' ≡ last

-- the rows ys are those of xs, added up
pub record IsSum {K X : Type 0} (below : K → K → Type 0) (same : K → K → Bool) (key : X → K) (count : X → ℕ) (xs ys : List X) : Type 0 where
  pub rise : IsRising (λ r s. below (key r) (key s)) ys
  pub totals : (t : K) → total same key count t ys ≡ total same key count t xs

module _ {K X : Type 0} (same : K → K → Bool) (key : X → K) (count : X → ℕ) (limit : ℕ) (told : (j k : K) → Decides (same j k) (j ≡ k)) where
  -- two rows of one key count it as often as their sum
  one_of_two : (t : K) (last next last' : X) → key last' ≡ key last → key last ≡ key next → count last' ≡ count last + count next → cond (same t (key last')) (count last') 0 ≡ cond (same t (key last)) (count last) 0 + cond (same t (key next)) (count next) 0
  one_of_two t last next last' stays one sum =
      let Split : K → K → Type 0 = λ j k. cond (same t j) (count last') 0 ≡ cond (same t (key last)) (count last) 0 + cond (same t k) (count next) 0 in
      let split : Split (key last) (key last) = elim (same t (key last)) as (λ v. cond v (count last') 0 ≡ cond v (count last) 0 + cond v (count next) 0) [ true ↦ sum | false ↦ omega arith ] in
      subst (λ j. Split j (key next)) (sym stays) (subst (Split (key last)) one split)

  -- two rows of one key have room in one
  room : (last next : X) (xs : List X) → key last ≡ key next → ((t : K) → total same key count t (last ∷ next ∷ xs) < limit) → count last + count next < limit
  room last next xs one fits =
      let f : X → ℕ = λ r. cond (same (key last) (key r)) (count r) 0 in
      let own : f last ≡ count last = ap (λ v. cond v (count last) 0) ((told (key last) (key last)).1 refl) in
      let other : f next ≡ count next = ap (λ v. cond v (count next) 0) ((told (key last) (key next)).1 one) in
      let bound = fits (key last) in
      let first = sum_by-cons f last (next ∷ xs) in
      let second = sum_by-cons f next xs in
      omega arith

  -- a row that takes in the next one counts each key as often as both
  pub taken-total : (t : K) (next last : X) (b : Bool) (next' last' : X) (xs : List X) → TakesIn same key count limit next last b next' last' → b ≡ true → ((j : K) → total same key count j (last ∷ next ∷ xs) < limit) → total same key count t (last' ∷ xs) ≡ total same key count t (last ∷ next ∷ xs)
  taken-total t next last b next' last' xs took takes fits =
      let one : key last ≡ key next = (told (key last) (key next)).0 (sym took.tells ∙ takes) in
      let sum = took.adds takes (room last next xs one fits) in
      let f : X → ℕ = λ r. cond (same t (key r)) (count r) 0 in
      let new = sum_by-cons f last' xs in
      let old = sum_by-cons f last (next ∷ xs) in
      let older = sum_by-cons f next xs in
      let split = one_of_two t last next last' took.stays one sum in
      omega arith

module _ {K X S : Type 0} (below : K → K → Type 0) (same : K → K → Bool) (key : X → K) (count : X → ℕ) (limit : ℕ) (order : IsKeyOrder below same)
    (step : S → X → X → Bool → S → X → X → Type 0) (takes : (s : S) (x k : X) (b : Bool) (t : S) (x' k' : X) → step s x k b t x' k' → TakesIn same key count limit x k b x' k')
  where
    abbrev Fit : List X → Type 0
    Fit xs = (t : K) → total same key count t xs < limit

    folds : (s : S) (x k : X) (b : Bool) (t : S) (x' k' : X) → step s x k b t x' k' → Folds same key (total same key count) Fit x k b x' k'
    folds s x k b t x' k' r =
        let took = takes s x k b t x' k' r in
        let moved = λ (e : b ≡ true) (xs : List X) (fits : Fit (k ∷ x ∷ xs)) (j : K). taken-total same key count limit order.told j x k b x' k' xs took e fits in
        record {
          tells = took.tells;
          passes = took.passes;
          stays = took.stays;
          leaves = took.leaves;
          fits = λ e xs fits j. (let here = fits j in let same_total = moved e xs fits j in omega arith);
          reads = moved;
        }

    -- rows that were sorted, and of which each took in the next one where they have one key, are added up
    pub is_sum : (is_less : X → X → Bool) (up_to : (x y : X) → is_less y x ≡ false → AtMost below (key x) (key y)) (rows xs ys : List X) (s : S) → ((t : K) → total same key count t rows < limit) → IsPermutation rows xs → IsSortedBy is_less xs → DedupsAll step s xs ys → IsSum below same key count rows ys
    is_sum is_less up_to rows xs ys s fits moved up d =
        let f : K → X → ℕ = λ t r. cond (same t (key r)) (count r) 0 in
        let kept : (t : K) → total same key count t xs ≡ total same key count t rows = λ t. sum_by-IsPermutation (f t) rows xs moved in
        let fold = is_fold below same key order (total same key count) Fit (record {
          first = λ t x us vs e. sum_by-cons (f t) x us ∙ ap (λ n. f t x + n) e ∙ sym (sum_by-cons (f t) x vs);
          rest = λ x us fit t. (let here = fit t in let split = sum_by-cons (f t) x us in omega arith);
        }) step folds is_less up_to xs ys s (λ t. let here = fits t in let one = kept t in omega arith) up d in
        record { rise = fold.rise; totals = λ t. fold.reads t ∙ kept t }

-- what is so of each row is so of each sum, if it stays so where a row takes in the next one
module _ {X S : Type 0} (P : X → Type 0) (step : S → X → X → Bool → S → X → X → Type 0) (keeps : (s : S) (x k : X) (b : Bool) (t : S) (x' k' : X) → step s x k b t x' k' → P x → P k → P x' × P k') where
  kept_from : (xs ys : List X) (s : S) (k : X) → P k → AllByRecursion P xs → DedupsFrom step s k xs ys → AllByRecursion P ys
  kept_from [] ys s k first all e = subst (AllByRecursion P) (sym e) (first, tt)
  kept_from (x ∷ xs) ys s k first all d =
      let Case : Bool → Type 0 = λ b. step s x k b d.1 d.2 d.3 → MatchBool b (DedupsFrom step d.1 d.3 xs ys) ((zs : List X) × DedupsFrom step d.1 d.2 xs zs × (ys ≡ d.3 ∷ zs)) → AllByRecursion P ys in
      let cases : Case d.0 = elim d.0 as Case [
        | true ↦ λ r rest. kept_from xs ys d.1 d.3 (keeps s x k true d.1 d.2 d.3 r all.0 first).1 all.1 rest
        | false ↦ λ r rest. (
            let both = keeps s x k false d.1 d.2 d.3 r all.0 first in
            subst (AllByRecursion P) (sym rest.2) (both.1, kept_from xs rest.0 d.1 d.2 both.0 all.1 rest.1)
            )
      ] in
      cases d.4 d.5

  pub kept_in_sums : (rows xs ys : List X) (s : S) → AllByRecursion P rows → IsPermutation rows xs → DedupsAll step s xs ys → AllByRecursion P ys
  kept_in_sums rows xs ys s all moved d =
      of_sorted xs (recursion_from_All P xs (All-permutation P rows xs moved (All-from_recursion P rows all))) d
    where
      of_sorted : (xs : List X) → AllByRecursion P xs → DedupsAll step s xs ys → AllByRecursion P ys
      of_sorted [] all e = subst (AllByRecursion P) (sym e) tt
      of_sorted (x ∷ xs) all d = kept_from xs ys s x all.0 all.1 d
