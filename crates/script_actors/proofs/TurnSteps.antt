-- Each step of the code's turn is what is due in the actor's turn.
use Rattle.std.proofs.Common.{◌≡◌, ◌≤◌, ◌<◌, ℕ, Bool, true, false, not, List, [], ◌∷◌, length, Option, Some, None, refl, sym, ◌∙◌, ap, subst, arith, IsTrue}
use Rattle.std.specs.Prelude.{is_some, IfOk, OnOk, Result, Ok, Err}
use Rattle.crgc_ids.specs.declared.NoMemory.{NoMemory}
use Rattle.behaviour_lang.specs.declared.code.Behaviour.{Behaviour}
use Rattle.std.specs.List.{filter}
use Rattle.std.proofs.lemmas.Bool.{false≢true, false_from_ne_true}
use Rattle.crgc_ids.specs.Actor.{Actor, same_actor}
use Rattle.history_model.specs.declared.events.Event.{Event}
use Rattle.history_model.specs.declared.events.Event.TheVariants.{Wake, Take, Spawn, Send, Drop, Retire, Rest}
use Rattle.history_model.specs.Cluster.{is_born, newborn}
use Rattle.history_model.proofs.AccountsBirths.{newborn-not_born}
use Rattle.history_model.proofs.Basics.{same_actor-equal, same_actor-refl}
use Rattle.behaviour_lang.specs.Code.{IsCode}
use Rattle.behaviour_lang.specs.Steps.{Left, Next, act_of, after_act, after_birth, after_step, due_act, idle, is_work, left, next_step, with_child}
use Rattle.behaviour_lang.specs.TurnState.{TurnState, is_end, is_spawn, left_of}
use Rattle.behaviour_lang.specs.declared.act.Act.{Act}
use Rattle.behaviour_lang.specs.declared.act.Act.TheVariants as acts
use Rattle.behaviour_lang.specs.declared.act.Step.{Step}
use Rattle.behaviour_lang.specs.declared.act.Step.TheVariants as steps
use Rattle.behaviour_lang.specs.declared.instr.Instr.{Instr}
use Rattle.script_reader.specs.Valid.{Scripted}
use Rattle.run_model.specs.Doing.{Doing, acts_on, as_child, doing, event_of}
use Rattle.run_model.proofs.TurnsDone.{picked}
use Rattle.script_actors.specs.Standing.{names_now}
use Rattle.script_actors.specs.Turns.{Acts, Ends, IsAfter, IsTurnOf, MakesStep, OwesBirth, is_of_turn, left_now, next_idle, refs_of, with_birth}
use Rattle.script_actors.proofs.CodeSteps.{Fits, step-fits}
use Rattle.script_actors.proofs.IdleSteps.{idle-next, idle-twice, idled_by}

-- where the test fails, the other one
pub passed_over : (v : Bool) (f g : Doing) → v ≡ false → (elim v as (λ _. Doing) [ true ↦ f | false ↦ g ]) ≡ g
passed_over true f g e = absurd (false≢true (sym e))
passed_over false f g e = refl

none-is : {A : Type 0} (o : Option A) → is_some o ≡ false → o ≡ None
none-is None e = refl
none-is (Some x) e = absurd (false≢true (sym e))

module _ (s : Scripted) (a : Actor) (h : List Event) (old new : TurnState) (good : IsCode s.code) (before : IsTurnOf s a h old) where
  -- what comes next in the actor's turn, by the step
  abbrev Next_by : Step → Type 0
  Next_by step = next_idle (left_now s a h) ≡ idled_by step (left_of s.code new)

  by-step : (step : Step) → MakesStep s.code step old new → Next_by step
  by-step step made =
      let l = left_of s.code old in
      sym before.next ∙ idle-next l.instrs l.names l.root
      ∙ ap (λ st. idled_by st (after_step (left_of s.code old))) (sym made.is_next) ∙ ap (idled_by step) (sym made.after)

  in-code : (step : Step) → MakesStep s.code step old new → new.behaviour < length s.code
  in-code step made = subst (λ b. b < length s.code) (sym made.behaviour) before.in_code

  -- what the act leaves
  after-act : (act : Act) → Next_by (steps.Act act) → after_step (idle (left_now s a h)) ≡ idle (left_of s.code new)
  after-act act e = ap (λ (n : Next). n.after) e

  due-now : (act : Act) → Next_by (steps.Act act) → due_act (left_now s a h) ≡ Some act
  due-now act e = ap (λ (n : Next). act_of n.step) e

  -- the turn after an act without a child
  plain : (act : Act) → MakesStep s.code (steps.Act act) old new → is_spawn (steps.Act act) ≡ false → length (refs_of act) ≤ 16
      → doing s a (event_of a (Some act) ∷ h) ≡ acts_on None (doing s a h) → Acts s a h act new
  plain act made single few now =
      let e = by-step (steps.Act act) made in
      let l = left_of s.code new in
      record {
        due = due-now act e;
        few = few;
        next = record {
          in_code = in-code (steps.Act act) made;
          running = made.ended;
          none_owed = none-is new.owed (made.owed ∙ single);
          next =
              sym (idle-twice l.instrs l.names l.root)
              ∙ sym (ap next_idle (after-act act e))
              ∙ sym (ap (λ (d : Doing). next_idle d.turn) now);
        };
      }

  spawning : (b : ℕ) → MakesStep s.code (steps.Act (acts.Spawn b)) old new → b < length s.code → OwesBirth s a h b new
  spawning b made below =
      let e = by-step (steps.Act (acts.Spawn b)) made in
      let l = left_of s.code new in
      let d = doing s a h in
      record {
        due = due-now (acts.Spawn b) e;
        in_code = below;
        owed = made.owed;
        bound = λ child is.
            let c = newborn a.node h in
            let other = elim (same_actor c a) as (λ _. Doing) [ true ↦ as_child d a | false ↦ d ] in
            let now : doing s a (Spawn a ∷ h) ≡ acts_on (Some c) d = picked (same_actor a a) (acts_on (Some c) d) other (same_actor-refl a) in
            record {
              in_code = in-code (steps.Act (acts.Spawn b)) made;
              running = made.ended;
              none_owed = refl;
              next =
                  sym (idle-twice l.instrs (with_child l.owed child l.names) l.root)
                  ∙ ap (λ x. next_idle (after_birth x (idle l))) is
                  ∙ sym (ap (λ m. next_idle (after_birth c m)) (after-act (acts.Spawn b) e))
                  ∙ sym (ap (λ (x : Doing). next_idle x.turn) now);
            };
      }

  ending : MakesStep s.code steps.End old new → Ends s a h new
  ending made =
      let e = by-step steps.End made in
      let d = doing s a h in
      record {
        due = ap (λ (n : Next). act_of n.step) e;
        ended = made.ended;
        names =
            sym (ap (λ (n : Next). (let l = n.after in l.names)) e)
            ∙ sym (ap (λ (x : Doing). (let l = x.turn in l.names)) (picked (same_actor a a) (acts_on None d) d (same_actor-refl a)));
      }

  pub step-due : (step : Step) → MakesStep s.code step old new → IsAfter s a h step new
  step-due (steps.Work k) made = record {
    in_code = in-code (steps.Work k) made;
    running = made.ended;
    none_owed = none-is new.owed made.owed;
    next = sym (by-step (steps.Work k) made);
  }
  step-due (steps.Act (acts.Spawn b)) made = spawning b made (subst (Fits (length s.code)) (sym made.is_next) (step-fits s.code old good))
  step-due (steps.Act (acts.Send t refs)) made =
      plain (acts.Send t refs) made refl (subst (Fits (length s.code)) (sym made.is_next) (step-fits s.code old good)) (picked (same_actor a a) _ _ (same_actor-refl a))
  step-due (steps.Act (acts.Drop t)) made = plain (acts.Drop t) made refl (omega arith) (picked (same_actor a a) _ _ (same_actor-refl a))
  step-due (steps.Act acts.Retire) made = plain acts.Retire made refl (omega arith) (picked (same_actor a a) _ _ (same_actor-refl a))
  step-due steps.End made = ending made

-- what the code's next step answers is such a step
pub steps-answered : (r : Result Step NoMemory) (code : List Behaviour) (old new : TurnState) → IfOk r (λ st. st ≡ next_step (left_of code old)) → OnOk r (left_of code new ≡ after_step (left_of code old)) → new.behaviour ≡ old.behaviour
    → IfOk r (λ st. new.ended ≡ is_end st) → IfOk r (λ st. is_some new.owed ≡ is_spawn st)
    → IfOk r (λ step. (s : Scripted) (a : Actor) (h : List Event) → s.code ≡ code → IsCode s.code → IsTurnOf s a h old → IsAfter s a h step new)
steps-answered (Err e) code old new step after same ended owed = tt
steps-answered (Ok step) code old new is_next after same ended owed = λ s a h code_is good before.
    step-due s a h old new good before step (record {
      is_next = is_next ∙ ap (λ bs. next_step (left_of bs old)) (sym code_is);
      after = ap (λ bs. left_of bs new) code_is ∙ after ∙ ap (λ bs. after_step (left_of bs old)) (sym code_is);
      behaviour = same;
      ended = ended;
      owed = owed;
    })

-- ---- events of others

others-doing : (s : Scripted) (a : Actor) (e : Event) (h : List Event) → IsTrue (is_born a h) → is_of_turn a e ≡ false → doing s a (e ∷ h) ≡ doing s a h
others-doing s a (Wake b) h born other = passed_over (same_actor b a) _ _ other
others-doing s a (Take b) h born other = passed_over (same_actor b a) _ _ other
others-doing s a (Spawn b) h born other =
    let c = newborn b.node h in
    let apart : same_actor c a ≡ false = false_from_ne_true (same_actor c a) (λ same. false≢true (sym (newborn-not_born b.node h) ∙ subst (λ x. is_born x h ≡ true) (sym (same_actor-equal c a same)) born)) in
    passed_over (same_actor b a) _ _ other ∙ passed_over (same_actor c a) _ _ apart
others-doing s a (Send b t refs) h born other = passed_over (same_actor b a) _ _ other
others-doing s a (Drop b t) h born other = passed_over (same_actor b a) _ _ other
others-doing s a (Retire b) h born other = passed_over (same_actor b a) _ _ other
others-doing s a (Rest b) h born other = passed_over (same_actor b a) _ _ other
others-doing s a e h born other = refl

pub others-leave : (s : Scripted) (a : Actor) (e : Event) (h : List Event) (t : TurnState) → IsTrue (is_born a h) → is_of_turn a e ≡ false → IsTurnOf s a h t → IsTurnOf s a (e ∷ h) t
others-leave s a e h t born other stands = record {
  in_code = stands.in_code;
  running = stands.running;
  none_owed = stands.none_owed;
  next = stands.next ∙ sym (ap (λ (d : Doing). next_idle d.turn) (others-doing s a e h born other));
}
