-- What one more reference, and counts with room, say of an actor's state.
use Rattle.std.proofs.Common.{◌≡◌, ◌+◌, ◌<◌, ◌^◌, ℕ, true, false, cond, List, [], ◌∷◌, count_by, length, refl, sym, subst, arith}
use Rattle.std.proofs.lemmas.List.Sums.{count_by-le-length}
use Rattle.crgc_ids.specs.Actor.{Actor, same_actor}
use Rattle.crgc_ids.proofs.ActorLaws.{same_actor-decides}
use Rattle.refob_counts.specs.Counts.{IsCountChange, IsGain, count_of}

-- one reference more is a gain of one
pub gain-one : (old new : List (Actor × ℕ)) (target : Actor) → IsCountChange old new target (count_of old target + 1) → IsGain old new (target ∷ [])
gain-one old new target change a =
    let More : ℕ → Type 0 = λ n. count_of new a ≡ count_of old a + (0 + n) in
    elim (same_actor a target) as (λ v. same_actor a target ≡ v → More (cond v 1 0)) [
      | true ↦ λ same. (
          let one = (same_actor-decides a target).0 same in
          let changed = subst (λ t. count_of new t ≡ count_of old t + 1) (sym one) change.changed in
          omega arith
          )
      | false ↦ λ other. (let kept = change.others a (λ e. apart other e) in omega arith)
    ] refl
  where
    apart : same_actor a target ≡ false → a ≡ target → ⊥
    apart other e = (let same : same_actor a target ≡ true = (same_actor-decides a target).1 e in absurd (cc))

-- where one more and as many as a list is long have room, so has what a list counts
pub fits-count : (a : Actor) (refs : List Actor) (n : ℕ) → n + (1 + length refs) < 2 ^ 32 → n + count_by (same_actor a) refs < 2 ^ 32
fits-count a refs n fits = (let below = count_by-le-length (same_actor a) refs in omega arith)
