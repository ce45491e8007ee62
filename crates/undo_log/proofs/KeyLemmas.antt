-- The order of corrections, and corrections that are added up.
use Rattle.std.proofs.Common.{◌≡◌, ◌+◌, ◌<◌, ◌&&◌, Bool, true, false, cond, min, Option, Some, None, Ordering, refl, sym, ◌∙◌, ap, subst, inl, inr, arith}
use Rattle.std.proofs.lemmas.Bool.{false≢true}
use Rattle.std.proofs.lemmas.Bool.Decides.{Decides-and, Decides-like}
use Rattle.std.proofs.lemmas.Cmp.{on_total, then_total}
use Rattle.std.specs.Bool.{Decides}
use Rattle.std.specs.Cmp.{IsTotalOrder}
use Rattle.std.specs.Cmp.Lexicographic.{options_total}
use Rattle.std.specs.Option.{option_cmp}
use Rattle.std.specs.Ordering.{MatchOrdering, is_lt}
use Rattle.std.specs.declared.cmp.Ordering.TheVariants.{Equal, Greater, Less}
use Rattle.crgc_ids.proofs.ActorLaws.{IsActorBelow-apart, IsActorBelow-trans, same_actor-decides}
use Rattle.crgc_ids.proofs.ActorOrder.{actor_cmp-tells}
use Rattle.crgc_ids.proofs.KeyOrders.{IsKeyOrder}
use Rattle.crgc_ids.specs.Actor.{Actor, IsActorBelow, actor_cmp, same_actor}
use Rattle.row_sums.proofs.OrderLemmas.{actors-total}
use Rattle.row_sums.proofs.RowLemmas.{actors-sorted, not_less}
use Rattle.row_sums.proofs.SumLemmas.{AtMost}
use Rattle.row_sums.specs.Orders.{compare_actors}
use Rattle.undo_log.specs.Keys.{IsKeyBelow, compare_keys, IsOwnerBelow, same_owner}
use Rattle.undo_log.specs.declared.corrections.Correction.{Correction}

abbrev pub Key : Type 0
Key = Option Actor × Actor

abbrev pub same_key : Key → Key → Bool
same_key j k = same_owner j.0 k.0 && same_actor j.1 k.1

-- ---- owners, of which there may be none

owner-apart : (o : Option Actor) → IsOwnerBelow o o → ⊥
owner-apart None h = h
owner-apart (Some a) h = IsActorBelow-apart a h

owner-trans : (o p q : Option Actor) → IsOwnerBelow o p → IsOwnerBelow p q → IsOwnerBelow o q
owner-trans None None q h k = absurd h
owner-trans None (Some b) None h k = absurd k
owner-trans None (Some b) (Some c) h k = tt
owner-trans (Some a) None q h k = absurd h
owner-trans (Some a) (Some b) None h k = absurd k
owner-trans (Some a) (Some b) (Some c) h k = IsActorBelow-trans a b c h k

same_owner-decides : (o p : Option Actor) → Decides (same_owner o p) (o ≡ p)
same_owner-decides None None = (λ _. refl, λ _. refl)
same_owner-decides None (Some b) = (λ t. absurd (false≢true t), λ e. absurd (cc))
same_owner-decides (Some a) None = (λ t. absurd (false≢true t), λ e. absurd (cc))
same_owner-decides (Some a) (Some b) = Decides-like (same_actor a b) (λ e. ap Some e) (λ e. cc) (same_actor-decides a b)

owner_cmp-tells : (o p : Option Actor) → MatchOrdering (option_cmp actor_cmp o p) (IsOwnerBelow o p) (o ≡ p) (IsOwnerBelow p o)
owner_cmp-tells None None = refl
owner_cmp-tells None (Some b) = tt
owner_cmp-tells (Some a) None = tt
owner_cmp-tells (Some a) (Some b) =
    let Told : Ordering → Type 0 = λ o. MatchOrdering o (IsActorBelow a b) (a ≡ b) (IsActorBelow b a) → MatchOrdering o (IsActorBelow a b) (Some a ≡ Some b) (IsActorBelow b a) in
    let told : Told (actor_cmp a b) = elim (actor_cmp a b) as Told [ Less ↦ λ h. h | Equal ↦ λ e. ap Some e | Greater ↦ λ h. h ] in
    told (actor_cmp-tells a b)

-- ---- keys

pub key_order : IsKeyOrder IsKeyBelow same_key
key_order = record {
  apart = λ k h. elim h [ inl below ↦ owner-apart k.0 below | inr below ↦ IsActorBelow-apart k.1 below.1 ];
  trans = key-trans;
  told = λ j k. Decides-like (same_key j k) (λ h. (λ i. (h.0 i, h.1 i))) (λ e. (ap (λ x. x.0) e, ap (λ x. x.1) e))
      (Decides-and (same_owner j.0 k.0) (same_actor j.1 k.1) (same_owner-decides j.0 k.0) (same_actor-decides j.1 k.1));
}
  where
    key-trans : (i j k : Key) → IsKeyBelow i j → IsKeyBelow j k → IsKeyBelow i k
    key-trans i j k (inl g) (inl h) = inl (owner-trans i.0 j.0 k.0 g h)
    key-trans i j k (inl g) (inr h) = inl (subst (IsOwnerBelow i.0) h.0 g)
    key-trans i j k (inr g) (inl h) = inl (subst (λ o. IsOwnerBelow o k.0) (sym g.0) h)
    key-trans i j k (inr g) (inr h) = inr (g.0 ∙ h.0, IsActorBelow-trans i.1 j.1 k.1 g.1 h.1)

-- of two keys that sorting left in their order, the first is not above the second
pub keys-sorted : (j k : Key) → is_lt (compare_keys k j) ≡ false → AtMost IsKeyBelow j k
keys-sorted j k h =
    elim (not_less (option_cmp compare_actors) IsOwnerBelow owner_cmp-tells j.0 k.0 (compare_actors k.1 j.1) h) [
      | inl below ↦ inr (inl below)
      | inr owner ↦ elim (actors-sorted j.1 k.1 owner.1) [ inl target ↦ inl (λ i. (owner.0 i, target i)) | inr below ↦ inr (inr (owner.0, below)) ]
    ]

pub keys-total : IsTotalOrder compare_keys
keys-total = then_total (on_total (λ (k : Key). k.0) (options_total actors-total)) (on_total (λ (k : Key). k.1) actors-total)

-- a row that counts something still does
pub still_counts : (next last : Correction) (b : Bool) (next' last' : Correction) → next' ≡ next → last' ≡ cond b (record last { told = min (last.told + next.told) 18446744073709551615; admitted = min (last.admitted + next.admitted) 18446744073709551615 }) last → 0 < next.told + next.admitted → 0 < last.told + last.admitted → (0 < next'.told + next'.admitted) × (0 < last'.told + last'.admitted)
still_counts next last true next' last' passes is some_next some_last =
    let told = ap (λ (r : Correction). r.told) is in
    let admitted = ap (λ (r : Correction). r.admitted) is in
    (subst (λ (r : Correction). 0 < r.told + r.admitted) (sym passes) some_next, omega arith)
still_counts next last false next' last' passes is some_next some_last =
    (subst (λ (r : Correction). 0 < r.told + r.admitted) (sym passes) some_next, subst (λ (r : Correction). 0 < r.told + r.admitted) (sym is) some_last)
