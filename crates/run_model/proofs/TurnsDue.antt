-- Who makes what is due in a turn, act by act, has made the whole turn.
use Rattle.std.proofs.Common.{◌≡◌, ◌+◌, ◌≤◌, ℕ, zero, suc, true, false, if◌then◌else◌, List, [], ◌∷◌, ◌++◌, length, map, Option, Some, None, refl, sym, ◌∙◌, ap, subst, arith}
use Rattle.std.specs.List.{range_with_len}
use Rattle.std.proofs.lemmas.Bool.{false≢true}
use Rattle.std.proofs.lemmas.Option.{same_Some}
use Rattle.crgc_ids.specs.Actor.{Actor, same_actor}
use Rattle.history_model.specs.declared.events.Event.{Event}
use Rattle.history_model.specs.declared.events.Event.TheVariants.{Spawn, Rest}
use Rattle.history_model.specs.Cluster.{births, newborn}
use Rattle.history_model.specs.Rows.{onto}
use Rattle.history_model.proofs.Basics.{eqb-refl, same_actor-refl}
use Rattle.behaviour_lang.specs.Bound.{Names}
use Rattle.behaviour_lang.specs.Steps.{Left, act_by_act, after_act, due_act}
use Rattle.behaviour_lang.specs.declared.act.Act.{Act}
use Rattle.behaviour_lang.specs.declared.act.Act.TheVariants as acts
use Rattle.behaviour_lang.proofs.ActLaws.{turn_is_its_due_act}
use Rattle.script_reader.specs.Valid.{Scripted}
use Rattle.run_model.specs.Doing.{Doing, acts_on, as_child, doing, due, event_of}
use Rattle.run_model.specs.Planned.{is_rest}
use Rattle.run_model.specs.Schedule.{AreDue, children, turn_done}
use Rattle.run_model.proofs.TurnLaws.{act-shorter, spawn-shorter}
use Rattle.run_model.proofs.TurnsDone.{act_events, acts_with, picked}

module _ (s : Scripted) (a : Actor) where
  -- what is left of a's turn, and how many instructions
  abbrev pub LeftAt : List Event → Left
  LeftAt h = (let d = doing s a h in d.turn)

  abbrev pub SizeAt : List Event → ℕ
  SizeAt h = (let l = LeftAt h in length l.instrs)

  -- the acts that are left at h, with k children at hand
  abbrev pub ActsAt : ℕ → List Event → List Act
  ActsAt k h = acts_with (LeftAt h) (children a k h)

  -- the first of them is the one that is due, and the others are left after it
  IsFirst : Act → ℕ → List Event → Type 0
  IsFirst act k h = (j : ℕ) × (SizeAt (event_of a (Some act) ∷ h) ≤ j) × (ActsAt k h ≡ act ∷ ActsAt j (event_of a (Some act) ∷ h))

  -- an act without a child
  plain-first : (act : Act) (k : ℕ) (h : List Event) → doing s a (event_of a (Some act) ∷ h) ≡ acts_on None (doing s a h) → children a k (event_of a (Some act) ∷ h) ≡ children a k h → SizeAt h ≤ k
      → ActsAt k h ≡ act ∷ acts_with (after_act None (LeftAt h)) (children a k h) → IsFirst act k h
  unfolding IsFirst
  plain-first act k h now same enough e = (
    k,
    subst (λ (x : Doing). (let l = x.turn in length l.instrs ≤ k)) (sym now) (let shorter = act-shorter (LeftAt h) in omega (arith, enough, shorter)),
    e ∙ sym (ap (λ (x : Doing). act ∷ acts_with x.turn (children a k (event_of a (Some act) ∷ h))) now ∙ ap (λ cs. act ∷ acts_with (after_act None (LeftAt h)) cs) same),
  )

  spawn-first : (b k : ℕ) (h : List Event) → due_act (LeftAt h) ≡ Some (acts.Spawn b) → SizeAt h ≤ suc k
      → ActsAt (suc k) h ≡ acts.Spawn b ∷ acts_with (after_act (Some (newborn a.node h)) (LeftAt h)) (map (λ i. record { node = a.node; serial = i }) (range_with_len (births a.node h + 1) k)) → IsFirst (acts.Spawn b) (suc k) h
  unfolding IsFirst
  spawn-first b k h next enough e =
      let d = doing s a h in
      let l = after_act (Some (newborn a.node h)) d.turn in
      let other = elim (same_actor (newborn a.node h) a) as (λ _. Doing) [ true ↦ as_child d a | false ↦ d ] in
      let now : doing s a (Spawn a ∷ h) ≡ acts_on (Some (newborn a.node h)) d = picked (same_actor a a) (acts_on (Some (newborn a.node h)) d) other (same_actor-refl a) in
      let count : births a.node (Spawn a ∷ h) ≡ births a.node h + 1 = ap (λ v. if v then births a.node h + 1 else births a.node h) (eqb-refl a.node) in
      let same : children a k (Spawn a ∷ h) ≡ map (λ i. record { node = a.node; serial = i }) (range_with_len (births a.node h + 1) k) = ap (λ n. map (λ i. record { node = a.node; serial = i }) (range_with_len n k)) count in
      let shorter = spawn-shorter d.turn b next in (
        k,
        subst (λ (x : Doing). (let l = x.turn in length l.instrs ≤ k)) (sym now) (omega (arith, enough, shorter)),
        e ∙ sym (ap (λ (x : Doing). acts.Spawn b ∷ acts_with x.turn (children a k (Spawn a ∷ h))) now ∙ ap (λ cs. acts.Spawn b ∷ acts_with l cs) same),
      )

  first-act : (v : Option Act) (act : Act) (k : ℕ) (h : List Event) → due_act (LeftAt h) ≡ v → v ≡ Some act → SizeAt h ≤ k → (let p = act_by_act v (LeftAt h) (children a k h) in ActsAt k h ≡ p.0) → IsFirst act k h
  first-act None act k h next is enough e = absurd (cc)
  first-act (Some (acts.Spawn b)) act zero h next is enough e = (let shorter = spawn-shorter (LeftAt h) b next in absurd (omega (arith, enough, shorter)))
  first-act (Some (acts.Spawn b)) act (suc k) h next is enough e = subst (λ x. IsFirst x (suc k) h) (same_Some (acts.Spawn b) act is) (spawn-first b k h next enough e)
  first-act (Some (acts.Send t refs)) act k h next is enough e =
      subst (λ x. IsFirst x k h) (same_Some (acts.Send t refs) act is) (plain-first (acts.Send t refs) k h (picked (same_actor a a) (acts_on None (doing s a h)) (doing s a h) (same_actor-refl a)) refl enough e)
  first-act (Some (acts.Drop t)) act k h next is enough e =
      subst (λ x. IsFirst x k h) (same_Some (acts.Drop t) act is) (plain-first (acts.Drop t) k h (picked (same_actor a a) (acts_on None (doing s a h)) (doing s a h) (same_actor-refl a)) refl enough e)
  first-act (Some acts.Retire) act k h next is enough e =
      subst (λ x. IsFirst x k h) (same_Some acts.Retire act is) (plain-first acts.Retire k h (picked (same_actor a a) (acts_on None (doing s a h)) (doing s a h) (same_actor-refl a)) refl enough e)

  law : (k : ℕ) (h : List Event) → (let p = act_by_act (due_act (LeftAt h)) (LeftAt h) (children a k h) in ActsAt k h ≡ p.0)
  law k h = ap (λ (o : List Act × Names). o.0) (turn_is_its_due_act (LeftAt h) (children a k h))

  -- all that is left, done at once
  abbrev pub Finished : ℕ → List Event → List Event
  Finished k h = onto h (act_events a (ActsAt k h))

  pub step-same : (e : Event) (k : ℕ) (h : List Event) → e ≡ due s a h → is_rest e ≡ false → SizeAt h ≤ k → (j : ℕ) × (SizeAt (e ∷ h) ≤ j) × (Finished k h ≡ Finished j (e ∷ h))
  unfolding IsFirst
  step-same e k h is no_rest enough =
      elim (due_act (LeftAt h)) as (λ v. due_act (LeftAt h) ≡ v → e ≡ event_of a v → (j : ℕ) × (SizeAt (e ∷ h) ≤ j) × (Finished k h ≡ Finished j (e ∷ h))) [
        | None ↦ λ _ rest. absurd (false≢true (sym no_rest ∙ ap is_rest rest))
        | Some act ↦ λ next one. subst (λ x. (j : ℕ) × (SizeAt (x ∷ h) ≤ j) × (Finished k h ≡ Finished j (x ∷ h))) (sym one) (made act next)
      ] refl is
    where
      made : (act : Act) → due_act (LeftAt h) ≡ Some act → (j : ℕ) × (SizeAt (event_of a (Some act) ∷ h) ≤ j) × (Finished k h ≡ Finished j (event_of a (Some act) ∷ h))
      made act next = (let first = first-act (due_act (LeftAt h)) act k h refl next enough (law k h) in (first.0, first.1, ap (λ done. onto h (act_events a done)) first.2))

  pub steps-same : (q h : List Event) → AreDue s a q h → (k : ℕ) × (SizeAt (q ++ h) ≤ k) × (Finished (SizeAt h) h ≡ Finished k (q ++ h))
  steps-same [] h all = (SizeAt h, omega arith, refl)
  steps-same (e ∷ q) h all =
      let before = steps-same q h all.2 in
      let step = step-same e before.0 (q ++ h) all.0 all.1 before.1 in
      (step.0, step.1, before.2 ∙ step.2)

  -- where only the rest is due, nothing is left
  pub rest-none : (h : List Event) → due s a h ≡ Rest a → due_act (LeftAt h) ≡ None
  rest-none h is = none (due_act (LeftAt h)) (ap is_rest is)
    where
      none : (v : Option Act) → is_rest (event_of a v) ≡ true → v ≡ None
      none None e = refl
      none (Some (acts.Spawn b)) e = absurd (false≢true e)
      none (Some (acts.Send t refs)) e = absurd (false≢true e)
      none (Some (acts.Drop t)) e = absurd (false≢true e)
      none (Some acts.Retire) e = absurd (false≢true e)

  pub due-done : (q h : List Event) → AreDue s a q h → due s a (q ++ h) ≡ Rest a → turn_done s a h ≡ Rest a ∷ (q ++ h)
  due-done q h all rest =
      let steps = steps-same q h all in
      let g = q ++ h in
      let last : ActsAt steps.0 g ≡ [] = law steps.0 g ∙ ap (λ v. (let p = act_by_act v (LeftAt g) (children a steps.0 g) in p.0)) (rest-none g rest) in
      ap (λ x. Rest a ∷ x) (steps.2 ∙ ap (λ done. onto g (act_events a done)) last)
