-- Rows of which each key has one at most, and numbers far below the end of their type.
use Rattle.std.proofs.Common.{◌≡◌, ◌+◌, ◌<◌, ℕ, Bool, true, false, cond, List, [], ◌∷◌, refl, sym, ◌∙◌, ap, subst, inl, inr, arith}
use Rattle.std.proofs.lemmas.List.Sums.{sum_by-cons}
use Rattle.std.specs.Bool.{Decides}
use Rattle.std.specs.List.{AllByRecursion}
use Rattle.crgc_ids.specs.Actor.{Actor, IsPairBelow}
use Rattle.crgc_ids.specs.Rising.{IsRising}
use Rattle.crgc_ids.proofs.ActorLaws.{IsActorBelow-apart}
use Rattle.shadow_table.proofs.RowLemmas.{total}

module _ {K X : Type 0} (same : K → K → Bool) (told : (j k : K) → Decides (same j k) (j ≡ k)) (below : K → K → Type 0) (apart : (k : K) → below k k → ⊥) (key : X → K) (count : X → ℕ) where
  -- a key that is below those of all rows has none
  none-above : (k : K) (rows : List X) → AllByRecursion (λ s. below k (key s)) rows → total same key count k rows ≡ 0
  none-above k [] above = refl
  none-above k (r ∷ rows) above =
      let later = none-above k rows above.1 in
      let split = sum_by-cons (λ x. cond (same k (key x)) (count x) 0) r rows in
      let Case : Bool → Type 0 = λ b. same k (key r) ≡ b → cond b (count r) 0 ≡ 0 in
      let case : Case (same k (key r)) = elim (same k (key r)) as Case [
        | true ↦ λ e. absurd (apart k (subst (below k) (sym ((told k (key r)).0 e)) above.0))
        | false ↦ λ _. refl
      ] in
      let here = case refl in
      omega (arith, split, later, here)

  -- rows that rise count each key as its row does, if it has one
  pub rising-fits : (limit : ℕ) → 0 < limit → (rows : List X) → IsRising (λ r s. below (key r) (key s)) rows → AllByRecursion (λ r. count r < limit) rows → (t : K) → total same key count t rows < limit
  rising-fits limit some [] up fits t = some
  rising-fits limit some (r ∷ rows) up fits t =
      let split = sum_by-cons (λ x. cond (same t (key x)) (count x) 0) r rows in
      let Case : Bool → Type 0 = λ b. same t (key r) ≡ b → cond b (count r) 0 + total same key count t rows < limit in
      let case : Case (same t (key r)) = elim (same t (key r)) as Case [
        | true ↦ λ e. (
            let own : total same key count t rows ≡ 0 = ap (λ k. total same key count k rows) ((told t (key r)).0 e) ∙ none-above (key r) rows up.0 in
            let one = fits.0 in
            omega (arith, own, one)
            )
        | false ↦ λ _. (let later = rising-fits limit some rows up.1 fits.1 t in omega (arith, later))
      ] in
      let all = case refl in
      omega (arith, split, all)

pub pair-apart : (p : Actor × Actor) → IsPairBelow p.0 p.1 p.0 p.1 → ⊥
pair-apart p (inl h) = IsActorBelow-apart p.0 h
pair-apart p (inr h) = IsActorBelow-apart p.1 h.1
