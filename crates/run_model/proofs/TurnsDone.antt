-- The acts of a whole turn, one after another: each is the one that is due, and so legal.
use Rattle.std.proofs.Common.{◌≡◌, ◌+◌, ◌≤◌, ℕ, zero, suc, Bool, true, false, if◌then◌else◌, List, [], ◌∷◌, length, map, Option, Some, None, refl, sym, ◌∙◌, ap, subst, arith}
use Rattle.std.specs.List.{range_with_len}
use Rattle.std.proofs.lemmas.Bool.{false≢true}
use Rattle.crgc_ids.specs.Actor.{Actor, same_actor}
use Rattle.history_model.specs.declared.events.Event.{Event}
use Rattle.history_model.specs.declared.events.Event.TheVariants.{Spawn}
use Rattle.history_model.specs.Cluster.{births, newborn}
use Rattle.history_model.specs.Legal.{refusal}
use Rattle.history_model.specs.Rows.{onto}
use Rattle.history_model.specs.State.{is_busy, is_up}
use Rattle.history_model.proofs.Basics.{eqb-refl, same_actor-refl}
use Rattle.behaviour_lang.specs.Bound.{Names}
use Rattle.behaviour_lang.specs.Steps.{Left, act_by_act, after_act, due_act, visible, whole}
use Rattle.behaviour_lang.specs.declared.act.Act.{Act}
use Rattle.behaviour_lang.specs.declared.act.Act.TheVariants as acts
use Rattle.behaviour_lang.proofs.ActLaws.{turn_is_its_due_act}
use Rattle.script_reader.specs.Valid.{Scripted}
use Rattle.run_model.specs.Doing.{Doing, acts_on, as_child, cluster_of, doing, event_of}
use Rattle.run_model.specs.Schedule.{children}
use Rattle.run_model.proofs.Runs.{IsSound, sound-due, sound-next}
use Rattle.run_model.proofs.HeldNames.{IsDue}
use Rattle.run_model.proofs.TurnLaws.{act-shorter, spawn-shorter}

-- the acts that are left, with these children
abbrev pub acts_with : Left → List Actor → List Act
acts_with l cs = (let o = visible (whole l cs) in o.0)

-- the actor is in its turn, in a sound history
abbrev pub IsBusyIn : Scripted → Actor → List Event → Type 0
IsBusyIn s a h = IsSound s h × (is_busy a h ≡ true) × (is_up a.node h ≡ true)

-- the events of acts
abbrev pub act_events : Actor → List Act → List Event
act_events a done = map (λ act. event_of a (Some act)) done

-- who does all acts that are left, with enough children at hand, is still in its turn
abbrev pub Does : Scripted → Actor → List Act → Type 0
Does s a done =
    (h : List Event) (k : ℕ) → IsBusyIn s a h → (let d = doing s a h in let l = d.turn in length l.instrs ≤ k) → (let d = doing s a h in acts_with d.turn (children a k h) ≡ done)
    → IsBusyIn s a (onto h (act_events a done))

pub picked : (v : Bool) (f g : Doing) → v ≡ true → (elim v as (λ _. Doing) [ true ↦ f | false ↦ g ]) ≡ f
picked true f g e = refl
picked false f g e = absurd (false≢true e)

first-same : (x y : Act) (xs ys : List Act) → x ∷ xs ≡ y ∷ ys → x ≡ y
first-same x y xs ys e = cc

rest-same : (x y : Act) (xs ys : List Act) → x ∷ xs ≡ y ∷ ys → xs ≡ ys
rest-same x y xs ys e = cc

module _ (s : Scripted) (a : Actor) (act : Act) (done : List Act) (again : Does s a done) (h : List Event) (busy : IsBusyIn s a h) where
  -- what is due is legal
  step-legal : (v : Option Act) → (let d = doing s a h in due_act d.turn ≡ v) → refusal (cluster_of s) (event_of a v) h ≡ None
  step-legal v next = subst (λ v. refusal (cluster_of s) (event_of a v) h ≡ None) next (sound-due s a h busy.0 busy.1 busy.2)

  -- an act without a child, after which the rest is done
  plain : (one : Act) (k : ℕ) → (let d = doing s a h in due_act d.turn ≡ Some one) → IsDue s (event_of a (Some one)) h → (is_busy a (event_of a (Some one) ∷ h) ≡ true) × (is_up a.node (event_of a (Some one) ∷ h) ≡ true)
      → doing s a (event_of a (Some one) ∷ h) ≡ acts_on None (doing s a h) → children a k (event_of a (Some one) ∷ h) ≡ children a k h → (let d = doing s a h in let l = d.turn in length l.instrs ≤ k)
      → (let d = doing s a h in one ∷ acts_with (after_act None d.turn) (children a k h) ≡ act ∷ done) → IsBusyIn s a (onto h (act_events a (act ∷ done)))
  plain one k next is_due stays now same enough e =
      let d = doing s a h in
      let first = first-same one act _ _ e in
      let rest = rest-same one act _ _ e in
      let step = event_of a (Some one) in
      let sound = sound-next s step h busy.0 (step-legal (Some one) next) is_due in
      let shorter = act-shorter d.turn in
      let all = again (step ∷ h) k (sound, stays.0, stays.1)
      (subst (λ (x : Doing). (let l = x.turn in length l.instrs ≤ k)) (sym now) (omega (arith, enough, shorter)))
      (subst (λ cs. (let x = doing s a (step ∷ h) in acts_with x.turn cs ≡ done)) (sym same)
      (subst (λ (x : Doing). acts_with x.turn (children a k h) ≡ done) (sym now) rest)) in
      subst (λ x. IsBusyIn s a (onto (event_of a (Some x) ∷ h) (act_events a done))) first all

  -- a spawn with its child
  spawning : (b k : ℕ) → (let d = doing s a h in due_act d.turn ≡ Some (acts.Spawn b)) → (let d = doing s a h in let l = d.turn in length l.instrs ≤ suc k)
      → (let d = doing s a h in acts.Spawn b ∷ acts_with (after_act (Some (newborn a.node h)) d.turn) (map (λ i. record { node = a.node; serial = i }) (range_with_len (births a.node h + 1) k)) ≡ act ∷ done) → IsBusyIn s a (onto h (act_events a (act ∷ done)))
  spawning b k next enough e =
      let d = doing s a h in
      let first = first-same (acts.Spawn b) act _ _ e in
      let rest = rest-same (acts.Spawn b) act _ _ e in
      let other = elim (same_actor (newborn a.node h) a) as (λ _. Doing) [ true ↦ as_child d a | false ↦ d ] in
      let now : doing s a (Spawn a ∷ h) ≡ acts_on (Some (newborn a.node h)) d = picked (same_actor a a) (acts_on (Some (newborn a.node h)) d) other (same_actor-refl a) in
      let count : births a.node (Spawn a ∷ h) ≡ births a.node h + 1 = ap (λ v. if v then births a.node h + 1 else births a.node h) (eqb-refl a.node) in
      let same : children a k (Spawn a ∷ h) ≡ map (λ i. record { node = a.node; serial = i }) (range_with_len (births a.node h + 1) k) = ap (λ n. map (λ i. record { node = a.node; serial = i }) (range_with_len n k)) count in
      let sound = sound-next s (Spawn a) h busy.0 (step-legal (Some (acts.Spawn b)) next) (b, next) in
      let shorter = spawn-shorter d.turn b next in
      let all = again (Spawn a ∷ h) k (sound, busy.1, busy.2)
      (subst (λ (x : Doing). (let l = x.turn in length l.instrs ≤ k)) (sym now) (omega (arith, enough, shorter)))
      (subst (λ cs. (let x = doing s a (Spawn a ∷ h) in acts_with x.turn cs ≡ done)) (sym same)
      (subst (λ (x : Doing). acts_with x.turn (map (λ i. record { node = a.node; serial = i }) (range_with_len (births a.node h + 1) k)) ≡ done) (sym now) rest)) in
      subst (λ x. IsBusyIn s a (onto (event_of a (Some x) ∷ h) (act_events a done))) first all

  -- the act that is due comes first
  one-act : (k : ℕ) (v : Option Act) → (let d = doing s a h in due_act d.turn ≡ v) → (let d = doing s a h in let l = d.turn in length l.instrs ≤ k) → (let d = doing s a h in let p = act_by_act v d.turn (children a k h) in p.0 ≡ act ∷ done)
      → IsBusyIn s a (onto h (act_events a (act ∷ done)))
  one-act k None next enough e = absurd (cc)
  one-act zero (Some (acts.Spawn b)) next enough e = (let d = doing s a h in let shorter = spawn-shorter d.turn b next in absurd (omega (arith, enough, shorter)))
  one-act (suc k) (Some (acts.Spawn b)) next enough e = spawning b k next enough e
  one-act k (Some (acts.Send t refs)) next enough e =
      plain (acts.Send t refs) k next next (busy.1, busy.2) (picked (same_actor a a) _ _ (same_actor-refl a)) refl enough e
  one-act k (Some (acts.Drop t)) next enough e =
      plain (acts.Drop t) k next next (busy.1, busy.2) (picked (same_actor a a) _ _ (same_actor-refl a)) refl enough e
  one-act k (Some acts.Retire) next enough e =
      plain acts.Retire k next next (busy.1, busy.2) (picked (same_actor a a) _ _ (same_actor-refl a)) refl enough e

pub acts-done : (s : Scripted) (a : Actor) (done : List Act) → Does s a done
acts-done s a [] h k busy enough e = busy
acts-done s a (act ∷ done) h k busy enough e =
    let d = doing s a h in
    one-act s a act done (acts-done s a done) h busy k (due_act d.turn) refl enough
    (sym (ap (λ (o : List Act × Names). o.0) (turn_is_its_due_act d.turn (children a k h))) ∙ e)
