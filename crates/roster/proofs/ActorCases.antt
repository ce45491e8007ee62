-- What holds of all actors, by cases.
use Rattle.std.proofs.Common.{◌≡◌, ◌≢◌, true, false, refl, sym, ◌∙◌, subst}
use Rattle.std.proofs.lemmas.Bool.{false≢true}
use Rattle.crgc_ids.specs.Actor.{Actor, same_actor}
use Rattle.crgc_ids.proofs.ActorLaws.{same_actor-decides}

-- an actor, by whether it is this one
pub at-actor : (P : Actor → Type 0) (a b : Actor) → P a → (b ≢ a → P b) → P b
at-actor P a b here there =
    elim (same_actor a b) as (λ v. same_actor a b ≡ v → P b) [
      | true ↦ λ same. subst P ((same_actor-decides a b).0 same) here
      | false ↦ λ other. there (λ e. false≢true (sym other ∙ (same_actor-decides a b).1 (sym e)))
    ] refl
