-- The order of actors, as a comparison.
use Rattle.std.proofs.Common.{◌≡◌, ◌<◌, ℕ, refl, sym, ap, subst, inl, inr}
use Rattle.std.proofs.lemmas.Cmp.{nat_cmp_total, on_total, then_total}
use Rattle.std.specs.Cmp.{IsTotalOrder, nat_cmp_is}
use Rattle.std.specs.Ordering.{MatchOrdering, nat_cmp}
use Rattle.std.specs.declared.cmp.Ordering.{Ordering}
use Rattle.std.specs.declared.cmp.Ordering.TheVariants.{Less, Equal, Greater}
use Rattle.crgc_ids.proofs.ActorLaws.{actor_cases}
use Rattle.crgc_ids.specs.Actor.{Actor, IsActorBelow, actor_cmp}

pub actor_cmp-total : IsTotalOrder actor_cmp
actor_cmp-total = then_total (on_total (λ (a : Actor). a.node) nat_cmp_total) (on_total (λ (a : Actor). a.serial) nat_cmp_total)

less : (m n : ℕ) → m < n → nat_cmp m n ≡ Less
less m n h = sym (nat_cmp_is m n Less h)

equal : (m n : ℕ) → m ≡ n → nat_cmp m n ≡ Equal
equal m n e = sym (nat_cmp_is m n Equal e)

greater : (m n : ℕ) → n < m → nat_cmp m n ≡ Greater
greater m n h = sym (nat_cmp_is m n Greater h)

pub actor_cmp-below : (a b : Actor) → IsActorBelow a b → actor_cmp a b ≡ Less
actor_cmp-below a b (inl h) = rw (less a.node b.node h) refl
actor_cmp-below a b (inr h) = rw (equal a.node b.node h.0, less a.serial b.serial h.1) refl

pub actor_cmp-same : (a b : Actor) → a ≡ b → actor_cmp a b ≡ Equal
actor_cmp-same a b e = rw (equal a.node b.node (ap (λ c. c.node) e), equal a.serial b.serial (ap (λ c. c.serial) e)) refl

pub actor_cmp-above : (a b : Actor) → IsActorBelow b a → actor_cmp a b ≡ Greater
actor_cmp-above a b (inl h) = rw (greater a.node b.node h) refl
actor_cmp-above a b (inr h) = rw (equal a.node b.node (sym h.0), greater a.serial b.serial h.1) refl

-- what the comparison tells
pub actor_cmp-tells : (a b : Actor) → MatchOrdering (actor_cmp a b) (IsActorBelow a b) (a ≡ b) (IsActorBelow b a)
actor_cmp-tells a b =
    let Told : Ordering → Type 0 = λ o. MatchOrdering o (IsActorBelow a b) (a ≡ b) (IsActorBelow b a) in
    elim (actor_cases a b) [
      | inl below ↦ subst Told (sym (actor_cmp-below a b below)) below
      | inr other ↦ elim other [
        | inl same ↦ subst Told (sym (actor_cmp-same a b same)) same
        | inr above ↦ subst Told (sym (actor_cmp-above a b above)) above
      ]
    ]
