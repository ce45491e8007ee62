-- No actor takes more than its mail, and none gives up more references than it got: so the subtractions of `waiting`
-- and `held` are exact.
use Rattle.std.proofs.Common.{◌≡◌, ◌<◌, ◌≤◌, ◌+◌, ◌&&◌, true, false, not, List, [], ◌∷◌, length, refl, subst, arith, cond, length-drop}
use Rattle.std.proofs.lemmas.Bool.{false≢true, ltb-true, and_parts}
use Rattle.crgc_ids.specs.Actor.{Actor}
use Rattle.history_model.specs.declared.events.Event.{Event}
use Rattle.history_model.specs.declared.events.Event.TheVariants.{Take, Drop}
use Rattle.history_model.specs.Cluster.{Cluster, same_actor}
use Rattle.history_model.specs.Messages.{mail, takes, waiting}
use Rattle.history_model.specs.Held.{got, gave, held}
use Rattle.history_model.specs.Legal.{IsLegal, has_nothing}
use Rattle.history_model.proofs.Basics.{same_actor-equal, legal-kept}
use Rattle.history_model.proofs.AccountsGrowth.{length-begins, mail-begins, got-grows}

-- a list that is not empty
has-something : {A : Type 0} (xs : List A) → not (has_nothing xs) ≡ true → 0 < length xs
has-something [] t = absurd (false≢true t)
has-something (x ∷ xs) t = omega arith

-- no actor takes more than its mail
pub takes-mail : (cl : Cluster) (h : List Event) → IsLegal cl h → (a : Actor) → takes a h ≤ length (mail a h)
takes-mail cl [] legal a = omega arith
takes-mail cl (Take b ∷ p) legal a =
    let kept = legal-kept cl (Take b) p legal in
    let some : 0 < length (waiting b p) = has-something (waiting b p) kept.1.1.1.0 in
    let left : takes b p < length (mail b p) = omega (arith, length-drop (takes b p) (mail b p)) in
    let before = takes-mail cl p legal.1 a in
    let split = elim (same_actor b a) as (λ v. same_actor b a ≡ v → cond v (takes a p + 1) (takes a p) ≤ length (mail a p)) [
      | true ↦ λ same. (let now = subst (λ c. takes c p < length (mail c p)) (same_actor-equal b a same) left in omega arith)
      | false ↦ λ _. before
    ] in
    omega (arith, split refl, length-begins (mail a p) (mail a (Take b ∷ p)) (mail-begins a (Take b ∷ []) p))
takes-mail cl (e ∷ p) legal a =
    omega (arith, takes-mail cl p legal.1 a, length-begins (mail a p) (mail a (e ∷ p)) (mail-begins a (e ∷ []) p))

-- no actor gives up more references than it got
pub gave-got : (cl : Cluster) (h : List Event) → IsLegal cl h → (b a : Actor) → gave b a h ≤ got cl b a h
gave-got cl [] legal b a = omega arith
gave-got cl (Drop x t ∷ p) legal b a =
    let kept = legal-kept cl (Drop x t) p legal in
    let some : 0 < held cl x t p = ltb-true 0 (held cl x t p) kept.1.1.1.1.0 in
    let left : gave x t p < got cl x t p = omega arith in
    let before = gave-got cl p legal.1 b a in
    let split = elim (same_actor x b && same_actor t a) as (λ v. (same_actor x b && same_actor t a) ≡ v → cond v (gave b a p + 1) (gave b a p) ≤ got cl b a p) [
      | true ↦ λ same.
          let both = and_parts (same_actor x b) (same_actor t a) same in
          let owner = subst (λ c. gave c t p < got cl c t p) (same_actor-equal x b both.0) left in
          let target = subst (λ c. gave b c p < got cl b c p) (same_actor-equal t a both.1) owner in
          omega arith
      | false ↦ λ _. before
    ] in
    omega (arith, split refl, got-grows cl b a (Drop x t ∷ []) p)
gave-got cl (e ∷ p) legal b a = omega (arith, gave-got cl p legal.1 b a, got-grows cl b a (e ∷ []) p)
