-- Turns of the fixed schedule that are under way: each act was due, what is due next is legal, and it comes next in the whole
-- turn.
use Rattle.std.proofs.Common.{◌≡◌, ℕ, false, List, [], ◌∷◌, ◌++◌, append_assoc, Option, Some, None, refl, sym, ◌∙◌, ap, subst, inl, inr}
use Rattle.std.proofs.lemmas.Bool.{false≢true}
use Rattle.crgc_ids.specs.Actor.{Actor}
use Rattle.history_model.specs.declared.events.Event.{Event}
use Rattle.history_model.specs.declared.events.Event.TheVariants.{Rest, Crash}
use Rattle.history_model.specs.Legal.{IsLegal, refusal}
use Rattle.history_model.specs.Rows.{onto}
use Rattle.history_model.proofs.AccountsBirths.{born-on_node}
use Rattle.behaviour_lang.specs.Steps.{due_act}
use Rattle.behaviour_lang.specs.declared.act.Act.{Act}
use Rattle.behaviour_lang.specs.declared.act.Act.TheVariants as acts
use Rattle.fault_plan.specs.Rows.{Planned, crash_of}
use Rattle.script_reader.specs.Valid.{Scripted}
use Rattle.run_model.specs.Doing.{beginning, cluster_of, doing, due, event_of}
use Rattle.run_model.specs.Planned.{crash_due, ended_on, is_rest}
use Rattle.run_model.specs.Schedule.{AreDue, crashed, schedule}
use Rattle.run_model.specs.Turns.{BeginsTurn, ComesNext, IsUnderWay}
use Rattle.run_model.proofs.ActsLegal.{busy-born}
use Rattle.run_model.proofs.Runs.{IsSound, sound-due, sound-next}
use Rattle.run_model.proofs.Scheduled.{crash-sound, schedule-sound, take-busy, wake-busy}
use Rattle.run_model.proofs.TurnsDone.{IsBusyIn, act_events}
use Rattle.run_model.proofs.TurnsDue.{ActsAt, due-done, step-same, steps-same}

module _ (s : Scripted) (a : Actor) where
  -- a turn begins
  begin-busy : (e : Event) (h : List Event) → IsSound s h → BeginsTurn a e → refusal (cluster_of s) e h ≡ None → IsBusyIn s a (e ∷ h)
  begin-busy e h sound (inl wake) none =
      subst (λ x. IsBusyIn s a (x ∷ h)) (sym wake) (wake-busy s a h sound (subst (λ x. refusal (cluster_of s) x h ≡ None) wake none))
  begin-busy e h sound (inr take) none =
      subst (λ x. IsBusyIn s a (x ∷ h)) (sym take) (take-busy s a h sound (subst (λ x. refusal (cluster_of s) x h ≡ None) take none))

  -- the act that is due leaves the actor in its turn
  act-busy : (h : List Event) → IsBusyIn s a h → (v : Option Act) → (let d = doing s a h in due_act d.turn ≡ v) → is_rest (event_of a v) ≡ false → refusal (cluster_of s) (event_of a v) h ≡ None → IsBusyIn s a (event_of a v ∷ h)
  act-busy h busy None next no_rest none = absurd (false≢true (sym no_rest))
  act-busy h busy (Some (acts.Spawn b)) next no_rest none = (sound-next s (event_of a (Some (acts.Spawn b))) h busy.0 none (b, next), busy.1, busy.2)
  act-busy h busy (Some (acts.Send t refs)) next no_rest none = (sound-next s (event_of a (Some (acts.Send t refs))) h busy.0 none next, busy.1, busy.2)
  act-busy h busy (Some (acts.Drop t)) next no_rest none = (sound-next s (event_of a (Some (acts.Drop t))) h busy.0 none next, busy.1, busy.2)
  act-busy h busy (Some acts.Retire) next no_rest none = (sound-next s (event_of a (Some acts.Retire)) h busy.0 none next, busy.1, busy.2)

  due-busy : (e : Event) (h : List Event) → IsBusyIn s a h → e ≡ due s a h → is_rest e ≡ false → IsBusyIn s a (e ∷ h)
  due-busy e h busy is no_rest =
      let d = doing s a h in
      subst (λ x. IsBusyIn s a (x ∷ h)) (sym is)
      (act-busy h busy (due_act d.turn) refl (sym (ap is_rest is) ∙ no_rest) (sound-due s a h busy.0 busy.1 busy.2))

  acts-busy : (q h : List Event) → AreDue s a q h → IsBusyIn s a h → IsBusyIn s a (q ++ h)
  acts-busy [] h all busy = busy
  acts-busy (e ∷ q) h all busy = due-busy e (q ++ h) (acts-busy q h all.2 busy) all.0 all.1

  -- the crash that is due with the rest is legal
  crash-legal : (h : List Event) → IsBusyIn s a h → due s a h ≡ Rest a → (n : ℕ) → crash_due s (Rest a ∷ h) ≡ Some n → refusal (cluster_of s) (Crash n) (Rest a ∷ h) ≡ None
  crash-legal h busy rest n due =
      let cl = cluster_of s in
      let plan : Planned = s.plan in
      let born = busy-born cl h busy.0.0 a busy.1 in
      let none = subst (λ x. refusal cl x h ≡ None) rest (sound-due s a h busy.0 busy.1 busy.2) in
      let sound = sound-next s (Rest a) h busy.0 none tt in
      let crashes = crash-sound s a (crash_of a.node plan.crashes) (ended_on a.node (Rest a ∷ h)) (Rest a ∷ h) sound (born-on_node cl h busy.0.0 a born) busy.2 in
      (subst (λ v. IsSound s (crashed v (Rest a ∷ h))) due crashes).0.0

  under-way : (h : List Event) → IsBusyIn s a h → IsUnderWay s a h
  under-way h busy = record {
    legal = busy.0.0;
    busy = busy.1;
    up = busy.2;
    next = sound-due s a h busy.0 busy.1 busy.2;
    crash = λ n rest due. crash-legal h busy rest n due;
  }

  pub part-under_way : IsLegal (cluster_of s) (beginning s) → (k : ℕ) (e : Event) (q : List Event) → BeginsTurn a e → refusal (cluster_of s) e (schedule s k) ≡ None → AreDue s a q (e ∷ schedule s k) → IsUnderWay s a (q ++ e ∷ schedule s k)
  part-under_way legal k e q begins none all =
      under-way (q ++ e ∷ schedule s k)
      (acts-busy q (e ∷ schedule s k) all (begin-busy e (schedule s k) (schedule-sound s legal k) begins none))

  -- ---- what comes next

  -- what is done at once stands after the history
  onto-after : (h es : List Event) → (later : List Event) × (onto h es ≡ later ++ h)
  onto-after h [] = ([], refl)
  onto-after h (e ∷ es) = (let rest = onto-after (e ∷ h) es in (rest.0 ++ e ∷ [], rest.1 ∙ sym (append_assoc rest.0 (e ∷ []) h)))

  rest-next : (q h : List Event) → AreDue s a q h → due s a (q ++ h) ≡ Rest a → ComesNext s a q h
  rest-next q h all rest = ([], due-done s a q h all rest ∙ ap (λ x. x ∷ (q ++ h)) (sym rest))

  act-next : (q h : List Event) → AreDue s a q h → is_rest (due s a (q ++ h)) ≡ false → ComesNext s a q h
  act-next q h all no_rest =
      let steps = steps-same s a q h all in
      let step = step-same s a (due s a (q ++ h)) steps.0 (q ++ h) refl no_rest steps.1 in
      let after = onto-after (due s a (q ++ h) ∷ (q ++ h)) (act_events a (ActsAt s a step.0 (due s a (q ++ h) ∷ (q ++ h)))) in
      (Rest a ∷ after.0, ap (λ x. Rest a ∷ x) (steps.2 ∙ step.2 ∙ after.1))

  pub due-next : (q h : List Event) → AreDue s a q h → ComesNext s a q h
  due-next q h all =
      let d = doing s a (q ++ h) in
      elim (due_act d.turn) as (λ v. due_act d.turn ≡ v → ComesNext s a q h) [
        | None ↦ λ next. rest-next q h all (ap (event_of a) next)
        | Some act ↦ λ next. act-next q h all (ap (λ v. is_rest (event_of a v)) next ∙ no-rest act)
      ] refl
    where
      no-rest : (act : Act) → is_rest (event_of a (Some act)) ≡ false
      no-rest (acts.Spawn b) = refl
      no-rest (acts.Send t refs) = refl
      no-rest (acts.Drop t) = refl
      no-rest acts.Retire = refl
