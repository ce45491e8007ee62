-- A birth that is taken back.
use Rattle.std.proofs.Common.{◌≡◌, ◌≢◌, ◌≤◌, ℕ, length, refl, sym, ◌∙◌, ap, subst, inl, inr, arith}
use Rattle.std.proofs.lemmas.Bool.{cases_eq}
use Rattle.std.proofs.lemmas.List.{get_or_past}
use Rattle.crgc_ids.specs.Actor.{Actor}
use Rattle.actor_states.specs.State.{IsAlike, State, blank_state}
use Rattle.node_actors.specs.Node.{AreAlike, Bears, NodeState, next_actor, state_in}

-- who was not born has the blank state
pub state-past : (n : NodeState) (s : ℕ) → length n.actors ≤ s → state_in n s ≡ blank_state (record { node = n.number; serial = s })
state-past n s past = get_or_past n.actors s (blank_state (record { node = n.number; serial = s })) past

-- a newborn was there, something failed that left all alike, and the newborn was taken back
pub forgotten-alike : (old mid failed new : NodeState) (child : Actor) (Newborn : State → Type 0)
    → child ≡ next_actor old
    → Bears old mid Newborn
    → AreAlike mid failed
    → (new.number ≡ failed.number) × (new.up ≡ failed.up)
    → length new.actors ≡ child.serial
    → ((s : ℕ) → s ≢ child.serial → state_in new s ≡ state_in failed s)
    → AreAlike old new
forgotten-alike old mid failed new child Newborn next bears alike node count others =
    let serial : child.serial ≡ length old.actors = ap (λ (a : Actor). a.serial) next in
    let number : new.number ≡ old.number = node.0 ∙ alike.0.0 ∙ bears.node.0 in
    let up : new.up ≡ old.up = node.1 ∙ alike.0.1 ∙ bears.node.1 in (
      (number, up, count ∙ serial),
      λ s. elim (cases_eq s (length old.actors)) [
        | inl last ↦ (
            let gone = state-past new s (omega (arith, count, serial, last)) in
            let never = state-past old s (omega (arith, last)) in
            let same : state_in new s ≡ state_in old s = gone ∙ ap (λ n. blank_state (record { node = n; serial = s })) number ∙ sym never in
            subst (λ x. IsAlike (state_in old s) x) (sym same) (refl, λ a. refl)
            )
        | inr other ↦ (
            let kept : state_in new s ≡ state_in failed s = others s (λ e. other (e ∙ serial)) in
            let born : state_in mid s ≡ state_in old s = bears.others s other in
            subst (λ x. IsAlike x (state_in new s)) born (subst (IsAlike (state_in mid s)) (sym kept) (alike.1 s))
            )
      ],
    )
