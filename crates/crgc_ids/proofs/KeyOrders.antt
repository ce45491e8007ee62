-- The orders by which rows rise: of actors, and of pairs of an owner and a target.
use Rattle.std.proofs.Common.{◌≡◌, ◌&&◌, Bool, ap, inl, inr}
use Rattle.std.proofs.lemmas.Bool.Decides.{Decides-and, Decides-like}
use Rattle.std.specs.Bool.{Decides}
use Rattle.crgc_ids.proofs.ActorLaws.{IsActorBelow-apart, IsActorBelow-trans, IsPairBelow-trans, same_actor-decides}
use Rattle.crgc_ids.specs.Actor.{Actor, IsActorBelow, IsPairBelow, same_actor}

-- an order of keys in which nothing is below itself, and the test of their sameness
pub record IsKeyOrder {K : Type 0} (below : K → K → Type 0) (same : K → K → Bool) : Type 0 where
  pub apart : (k : K) → below k k → ⊥
  pub trans : (i j k : K) → below i j → below j k → below i k
  pub told : (j k : K) → Decides (same j k) (j ≡ k)

pub actor_order : IsKeyOrder IsActorBelow same_actor
actor_order = record { apart = IsActorBelow-apart; trans = IsActorBelow-trans; told = same_actor-decides }

-- pairs of an owner and a target
abbrev pub PairBelow : Actor × Actor → Actor × Actor → Type 0
PairBelow p q = IsPairBelow p.0 p.1 q.0 q.1

abbrev pub same_pair : Actor × Actor → Actor × Actor → Bool
same_pair p q = same_actor p.0 q.0 && same_actor p.1 q.1

pub pair_order : IsKeyOrder PairBelow same_pair
pair_order = record {
  apart = λ p h. elim h [ inl k ↦ IsActorBelow-apart p.0 k | inr k ↦ IsActorBelow-apart p.1 k.1 ];
  trans = λ p q r. IsPairBelow-trans p.0 p.1 q.0 q.1 r.0 r.1;
  told = λ p q. Decides-like (same_pair p q) (λ h. (λ i. (h.0 i, h.1 i))) (λ e. (ap (λ x. x.0) e, ap (λ x. x.1) e))
      (Decides-and (same_actor p.0 q.0) (same_actor p.1 q.1) (same_actor-decides p.0 q.0) (same_actor-decides p.1 q.1));
}
