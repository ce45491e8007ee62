-- Which events are of a member of a quiet set: its own flush alone. A member is born, idle and no root, nothing waits for
-- it, and who holds it is a member too, so nobody can act on it.
use Rattle.std.proofs.Common.{◌≡◌, ◌<◌, ℕ, List, [], ◌∷◌, refl, sym, ◌∙◌, ap, subst, inl, inr, IsTrue}
use Rattle.std.proofs.lemmas.Bool.{false≢true, ltb-true}
use Rattle.crgc_ids.specs.Actor.{Actor}
use Rattle.crgc_ids.specs.Members.{IsAmong}
use Rattle.history_model.specs.declared.events.Event.{Event}
use Rattle.history_model.specs.declared.events.Event.TheVariants.{Seed, Tie, Wake, Take, Spawn, Send, Drop, Retire, Rest, Flush}
use Rattle.history_model.specs.Cluster.{Cluster, newborn}
use Rattle.history_model.specs.Messages.{waiting}
use Rattle.history_model.specs.Held.{held}
use Rattle.history_model.specs.State.{is_busy, is_root, is_up}
use Rattle.history_model.specs.Legal.{IsLegal}
use Rattle.history_model.specs.Quiescent.{IsQuietSet}
use Rattle.history_model.specs.Uses.{actors_in}
use Rattle.history_model.proofs.Basics.{legal-kept}
use Rattle.history_model.proofs.AccountsBirths.{newborn-not_born}
use Rattle.history_model.proofs.Lists.{Each, each-more, each-one}
use Rattle.history_model.proofs.States.{legal-send, some_waits, waiting-live}

-- the actor is no member
abbrev pub IsOutside : List Actor → Actor → Type 0
IsOutside q a = ¬ IsAmong a q

module _ (cl : Cluster) (p : List Event) (q : List Actor) (quiet : IsQuietSet cl p q) where
  pub busy-outside : (a : Actor) → IsTrue (is_busy a p) → IsOutside q a
  busy-outside a busy member = false≢true (sym (quiet.idle a member) ∙ busy)

  pub root-outside : (a : Actor) → IsTrue (is_root a p) → IsOutside q a
  root-outside a root member = false≢true (sym (quiet.no_root a member) ∙ root)

  -- a member was born before
  pub newborn-outside : (n : ℕ) → IsOutside q (newborn n p)
  newborn-outside n member = false≢true (sym (newborn-not_born n p) ∙ quiet.born (newborn n p) member)

  -- whom a busy actor holds
  held-outside : (b a : Actor) → IsTrue (is_up b.node p) → IsTrue (is_busy b p) → 0 < held cl b a p → IsOutside q a
  held-outside b a up busy some member = busy-outside b busy (quiet.holders b a member up some)

  -- who takes
  taker-outside : (a : Actor) → IsLegal cl (Take a ∷ p) → IsOutside q a
  taker-outside a legal member =
      let kept = legal-kept cl (Take a) p legal in
      let some = some_waits (waiting a p) kept.1.1.1.0 in
      let live = waiting-live p a kept.1.0 some.0 (subst (IsAmong some.0) (sym some.2) (inl refl)) in
      quiet.no_mail some.0 live.0 (subst (λ b. IsAmong b q) (sym live.1) member)

  -- the events that are of a member are its flushes
  pub only-flush : (e : Event) → IsLegal cl (e ∷ p) → (a : Actor) → IsAmong a (actors_in e p) → IsAmong a q → e ≡ Flush a
  only-flush (Seed n) legal a among member = absurd (each-one (IsOutside q) (newborn n p) (newborn-outside n) a among member)
  only-flush (Tie o t) legal a among member =
      let kept = legal-kept cl (Tie o t) p legal in
      let target = each-one (IsOutside q) t (root-outside t kept.1.1.1.1.1.1.0) in
      absurd (each-more (IsOutside q) o (t ∷ []) (root-outside o kept.1.1.1.1.1.0) target a among member)
  only-flush (Wake b) legal a among member =
      absurd (each-one (IsOutside q) b (root-outside b (legal-kept cl (Wake b) p legal).1.1.0) a among member)
  only-flush (Take b) legal a among member = absurd (each-one (IsOutside q) b (taker-outside b legal) a among member)
  only-flush (Spawn b) legal a among member =
      let parent = busy-outside b (legal-kept cl (Spawn b) p legal).1.1.0 in
      let child = each-one (IsOutside q) (newborn b.node p) (newborn-outside b.node) in
      absurd (each-more (IsOutside q) b (newborn b.node p ∷ []) parent child a among member)
  only-flush (Send f t refs) legal a among member =
      let rules = legal-send cl f t refs p legal in
      let named : Each (IsOutside q) (t ∷ refs) = λ b named. held-outside f b rules.up rules.busy (rules.holds b named) in
      absurd (each-more (IsOutside q) f (t ∷ refs) (busy-outside f rules.busy) named a among member)
  only-flush (Drop b t) legal a among member =
      let kept = legal-kept cl (Drop b t) p legal in
      let target = each-one (IsOutside q) t (held-outside b t kept.1.1.0 kept.1.1.1.0 (ltb-true 0 (held cl b t p) kept.1.1.1.1.0)) in
      absurd (each-more (IsOutside q) b (t ∷ []) (busy-outside b kept.1.1.1.0) target a among member)
  only-flush (Retire b) legal a among member =
      absurd (each-one (IsOutside q) b (root-outside b (legal-kept cl (Retire b) p legal).1.1.0) a among member)
  only-flush (Rest b) legal a among member =
      absurd (each-one (IsOutside q) b (busy-outside b (legal-kept cl (Rest b) p legal).1.1.0) a among member)
  only-flush (Flush b) legal a (inl e) member = ap Flush (sym e)
  only-flush (Flush b) legal a (inr none) member = absurd none
  only-flush _ legal a among member = absurd among
