-- Who was born is among the actors that are gone over.
use Rattle.std.proofs.Common.{◌≡◌, ◌<◌, ◌+◌, ℕ, Bool, true, false, cond, List, [], ◌∷◌, ◌++◌, refl, ap, subst, inl, inr, arith}
use Rattle.std.specs.Prelude.{◌==◌}
use Rattle.std.proofs.lemmas.Bool.{cases_lt, eqb-true}
use Rattle.crgc_ids.specs.Actor.{Actor}
use Rattle.crgc_ids.specs.Members.{IsAmong}
use Rattle.crgc_ids.proofs.ActorLaws.{same_parts}
use Rattle.crgc_ids.proofs.MembersLaws.{IsAmong-append_left, IsAmong-append_right}
use Rattle.history_model.specs.declared.events.Event.{Event}
use Rattle.history_model.specs.declared.events.Event.TheVariants.{Seed, Spawn}
use Rattle.history_model.specs.Cluster.{births, newborn}
use Rattle.quiet_check.specs.Plain.{owners, owners_by}

-- whoever was born was born before, or by the event
born_cases : (a : Actor) (n : ℕ) (e : Event) (p : List Event) → (a.serial < births a.node p → IsAmong a (owners p)) → IsAmong (newborn n p) (owners_by e p)
    → a.serial < cond (n == a.node) (births a.node p + 1) (births a.node p) → IsAmong a (owners p ++ owners_by e p)
born_cases a n e p before new born =
    let earlier : a.serial < births a.node p → IsAmong a (owners p ++ owners_by e p) =
    λ less. IsAmong-append_left a (owners p) (owners_by e p) (before less) in
    let Born : Bool → Type 0 = λ v. (n == a.node) ≡ v → a.serial < cond v (births a.node p + 1) (births a.node p) → IsAmong a (owners p ++ owners_by e p) in
    let split : Born (n == a.node) = elim (n == a.node) as Born [
      | true ↦ λ same less. elim (cases_lt a.serial (births a.node p)) [
        | inl sooner ↦ earlier sooner
        | inr last ↦ (
            let node : n ≡ a.node = eqb-true n a.node same in
            let count : births n p ≡ births a.node p = ap (λ k. births k p) node in
            let serial : births n p ≡ a.serial = omega arith in
            IsAmong-append_right a (owners p) (owners_by e p) (subst (λ x. IsAmong x (owners_by e p)) (same_parts (newborn n p) a node serial) new)
            )
      ]
      | false ↦ λ _ less. earlier less
    ] in
    split refl born

born_count : (a : Actor) (h : List Event) → a.serial < births a.node h → IsAmong a (owners h)
born_count a [] born = absurd (omega arith)
born_count a (Seed n ∷ p) born = born_cases a n (Seed n) p (born_count a p) (inl refl) born
born_count a (Spawn b ∷ p) born = born_cases a b.node (Spawn b) p (born_count a p) (inr (inl refl)) born
born_count a (e ∷ p) born = IsAmong-append_left a (owners p) (owners_by e p) (born_count a p born)

pub born_owner : (a : Actor) (h : List Event) → a.serial < births a.node h → IsAmong a (owners h)
born_owner = born_count
