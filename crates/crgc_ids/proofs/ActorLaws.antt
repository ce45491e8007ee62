-- The order of actors and of pairs of actors, and its tests.
use Rattle.std.proofs.Common.{◌≡◌, ◌⊎◌, ◌==◌, ◌&&◌, false, ltb, sym, ◌∙◌, ap, subst, inl, inr, arith}
use Rattle.std.proofs.lemmas.Bool.{cases_lt, false_from_ne_true}
use Rattle.std.proofs.lemmas.Bool.Decides.{Decides-and, Decides-eqb, Decides-like, Decides-ltb, Decides-or}
use Rattle.std.specs.Bool.{Decides}
use Rattle.crgc_ids.specs.Actor.{Actor, IsActorBelow, IsPairBelow, is_actor_below, same_actor}

-- the order of actors is transitive
pub IsActorBelow-trans : (a b c : Actor) → IsActorBelow a b → IsActorBelow b c → IsActorBelow a c
IsActorBelow-trans a b c (inl h) (inl k) = inl (omega arith)
IsActorBelow-trans a b c (inl h) (inr k) = inl (omega arith)
IsActorBelow-trans a b c (inr h) (inl k) = inl (omega arith)
IsActorBelow-trans a b c (inr h) (inr k) = inr (omega arith)

-- no actor is below itself
pub IsActorBelow-apart : (a : Actor) → IsActorBelow a a → ⊥
IsActorBelow-apart a (inl h) = omega arith
IsActorBelow-apart a (inr h) = omega arith

-- the order of pairs is transitive
pub IsPairBelow-trans : (a s b t c u : Actor) → IsPairBelow a s b t → IsPairBelow b t c u → IsPairBelow a s c u
IsPairBelow-trans a s b t c u (inl h) (inl k) = inl (IsActorBelow-trans a b c h k)
IsPairBelow-trans a s b t c u (inl h) (inr k) = inl (subst (IsActorBelow a) k.0 h)
IsPairBelow-trans a s b t c u (inr h) (inl k) = inl (subst (λ o. IsActorBelow o c) (sym h.0) k)
IsPairBelow-trans a s b t c u (inr h) (inr k) = inr (h.0 ∙ k.0, IsActorBelow-trans s t u h.1 k.1)

-- actors of one node and one serial are one
pub same_parts : (a b : Actor) → a.node ≡ b.node → a.serial ≡ b.serial → a ≡ b
same_parts a b p q = λ i. record { node = p i; serial = q i }

-- of two actors one is below the other, or they are one
pub actor_cases : (a b : Actor) → IsActorBelow a b ⊎ ((a ≡ b) ⊎ IsActorBelow b a)
actor_cases a b =
    elim (cases_lt a.node b.node) [
      | inl below ↦ inl (inl below)
      | inr above ↦ elim (cases_lt b.node a.node) [
        | inl h ↦ inr (inr (inl h))
        | inr h ↦ elim (cases_lt a.serial b.serial) [
          | inl k ↦ inl (inr (omega arith, k))
          | inr k ↦ elim (cases_lt b.serial a.serial) [
            | inl l ↦ inr (inr (inr (omega arith, l)))
            | inr l ↦ inr (inl (same_parts a b (omega arith) (omega arith)))
          ]
        ]
      ]
    ]

pub same_actor-decides : (a b : Actor) → Decides (same_actor a b) (a ≡ b)
same_actor-decides a b =
    Decides-like (same_actor a b)
    (λ h. same_parts a b h.0 h.1)
    (λ e. (ap (λ c. c.node) e, ap (λ c. c.serial) e))
    (Decides-and (a.node == b.node) (a.serial == b.serial) (Decides-eqb a.node b.node) (Decides-eqb a.serial b.serial))

-- actors that differ do not test the same
pub same_actor-apart : (a b : Actor) → (a ≡ b → ⊥) → same_actor a b ≡ false
same_actor-apart a b differ = false_from_ne_true (same_actor a b) (λ t. differ ((same_actor-decides a b).0 t))

pub is_actor_below-decides : (a b : Actor) → Decides (is_actor_below a b) (IsActorBelow a b)
is_actor_below-decides a b =
    Decides-or (ltb a.node b.node) ((a.node == b.node) && ltb a.serial b.serial) (Decides-ltb a.node b.node)
    (Decides-and (a.node == b.node) (ltb a.serial b.serial) (Decides-eqb a.node b.node) (Decides-ltb a.serial b.serial))
