-- Who may take a message after one event more.
use Rattle.std.proofs.Common.{◌≡◌, ◌==◌, ◌&&◌, ◌||◌, not, ℕ, Bool, true, false, List, refl, sym, ◌∙◌, ap, subst}
use Rattle.std.proofs.lemmas.Bool.{eqb-true, false≢true}
use Rattle.crgc_ids.specs.Actor.{Actor, same_actor}
use Rattle.history_model.specs.declared.events.Event.{Event}
use Rattle.history_model.specs.Legal.{has_nothing}
use Rattle.history_model.specs.Live.{is_ready}
use Rattle.history_model.specs.Messages.{Message, waiting}
use Rattle.history_model.specs.State.{is_busy, is_up}
use Rattle.history_model.proofs.Basics.{same_actor-equal, same_actor-refl}
use Rattle.ready_actors.specs.Ready.{IsLeft, has_actor}
use Rattle.traffic.specs.Changes.{IsNotReady, IsReadyIf}

-- what a set of actors has, where it has those that may take a message
abbrev pub HasReady : List Event → List Actor → Type 0
HasReady h actors = (a : Actor) → has_actor actors a ≡ is_ready a h

-- an actor of the same state may take a message as before
pub ready-same : (a : Actor) (h p : List Event) → is_up a.node h ≡ is_up a.node p → is_busy a h ≡ is_busy a p → waiting a h ≡ waiting a p → is_ready a h ≡ is_ready a p
ready-same a h p up busy waits = same (is_up a.node h) (is_up a.node p) (is_busy a h) (is_busy a p) (waiting a h) (waiting a p) up busy waits
  where
    same : (u u' b b' : Bool) (w w' : List Message) → u ≡ u' → b ≡ b' → w ≡ w' → (u && (not b && not (has_nothing w))) ≡ (u' && (not b' && not (has_nothing w')))
    same u u' b b' w w' e f g = cc

-- no busy actor may
pub busy-not_ready : (a : Actor) (h : List Event) → is_busy a h ≡ true → is_ready a h ≡ false
busy-not_ready a h busy = none (is_up a.node h) (is_busy a h) (waiting a h) busy
  where
    none : (u b : Bool) (w : List Message) → b ≡ true → (u && (not b && not (has_nothing w))) ≡ false
    none true true w e = refl
    none false true w e = refl
    none u false w e = absurd (false≢true e)

-- an actor of a node that is up may where it is idle and a message waits
pub ready-if : (a : Actor) (h : List Event) (idle waits : Bool) → is_up a.node h ≡ true → not (is_busy a h) ≡ idle → not (has_nothing (waiting a h)) ≡ waits → is_ready a h ≡ (idle && waits)
ready-if a h idle waits up rests some = cc

-- nobody may on a node that is down
pub down-not_ready : (a : Actor) (h : List Event) → is_up a.node h ≡ false → is_ready a h ≡ false
down-not_ready a h down = ap (λ v. v && (not (is_busy a h) && not (has_nothing (waiting a h)))) down

-- ---- by actors

-- what holds of each actor, by whether it is this one
pub by-actor : (P : Actor → Type 0) (b a : Actor) → P b → (same_actor b a ≡ false → P a) → P a
by-actor P b a here there =
    elim (same_actor b a) as (λ v. same_actor b a ≡ v → P a) [
      | true ↦ λ same. subst P (same_actor-equal b a same) here
      | false ↦ λ other. there other
    ] refl

-- the actor is busy now, and the others are as they were
pub ready-without : (old new : List Actor) (h p : List Event) (b : Actor) → IsNotReady old new b → is_busy b h ≡ true → ((a : Actor) → same_actor b a ≡ false → is_ready a h ≡ is_ready a p) → HasReady p old → HasReady h new
ready-without old new h p b change busy others has a =
    by-actor (λ x. has_actor new x ≡ is_ready x h) b a
    (change b ∙ ap (λ v. not v && has_actor old b) (same_actor-refl b) ∙ sym (busy-not_ready b h busy))
    (λ other. change a ∙ ap (λ v. not v && has_actor old a) other ∙ has a ∙ sym (others a other))

-- a test of another actor adds nothing
pub neither : (t o : Bool) → ((t && false) || o) ≡ o
neither true o = refl
neither false o = refl

-- the actor may take a message now if this is so, or if it might before; the others are as they were
pub ready-with : (old new : List Actor) (h p : List Event) (b : Actor) (test : Bool) → IsReadyIf test old new b → is_ready b h ≡ (test || is_ready b p) → ((a : Actor) → same_actor b a ≡ false → is_ready a h ≡ is_ready a p)
    → HasReady p old → HasReady h new
ready-with old new h p b test change here others has a =
    by-actor (λ x. has_actor new x ≡ is_ready x h) b a
    (change b ∙ both test (same_actor b b) (has_actor old b) (is_ready b p) (same_actor-refl b) (has b) ∙ sym here)
    (λ other. change a ∙ ap (λ v. (test && v) || has_actor old a) other ∙ neither test (has_actor old a) ∙ has a ∙ sym (others a other))
  where
    both : (t s o r : Bool) → s ≡ true → o ≡ r → ((t && s) || o) ≡ (t || r)
    both true s o r e f = cc
    both false s o r e f = f

-- the actors of a node that goes down may not, and the others are as they were
pub ready-left : (old new : List Actor) (h p : List Event) (n : ℕ) → IsLeft old new n → is_up n h ≡ false → ((a : Actor) → (a.node == n) ≡ false → is_ready a h ≡ is_ready a p) → HasReady p old → HasReady h new
ready-left old new h p n left down others has a =
    elim (a.node == n) as (λ v. (a.node == n) ≡ v → has_actor new a ≡ is_ready a h) [
      | true ↦ λ same.
          left a ∙ ap (λ v. not v && has_actor old a) same
          ∙ sym (down-not_ready a h (subst (λ k. is_up k h ≡ false) (sym (eqb-true a.node n same)) down))
      | false ↦ λ other. left a ∙ ap (λ v. not v && has_actor old a) other ∙ has a ∙ sym (others a other)
    ] refl
