-- How a turn goes on: step by step, and call by call.
use Rattle.std.proofs.Common.{◌≡◌, ◌==◌, ◌<◌, ◌++◌, ℕ, Bool, true, false, not, append-nil, append_assoc, List, [], ◌∷◌, length, Option, Some, None, is_some, refl, sym, ◌∙◌, ap, subst}
use Rattle.std.specs.Prelude.{IsSome}
use Rattle.std.specs.Option.{is_some}
use Rattle.std.proofs.lemmas.Bool.{false≢true, true≢false, false_from_ne_true}
use Rattle.crgc_ids.specs.Actor.{Actor, same_actor}
use Rattle.turn_lock.specs.History.{calls_of, entry}
use Rattle.history_model.proofs.Basics.{eqb-refl, same_actor-equal}
use Rattle.behaviour_lang.specs.Bound.{Names, local_names, names_at_start}
use Rattle.behaviour_lang.specs.Steps.{Left, after_birth, after_step, next_step, step_by_step, visible, whole, with_child}
use Rattle.behaviour_lang.specs.TurnState.{TurnState, at_start, is_end, is_spawn, left_of}
use Rattle.behaviour_lang.specs.declared.act.Act.{Act}
use Rattle.behaviour_lang.specs.declared.act.Act.TheVariants as acts
use Rattle.behaviour_lang.specs.declared.act.Step.{Step}
use Rattle.behaviour_lang.specs.declared.act.Step.TheVariants as steps
use Rattle.behaviour_lang.specs.declared.code.Behaviour.{Behaviour}
use Rattle.behaviour_lang.proofs.StepLaws.{turn_is_its_next_step}
use Rattle.operation_model.specs.declared.operations.Op.{Op}
use Rattle.operation_model.specs.declared.operations.Op.TheVariants as ops
use Rattle.operation_model.specs.declared.replies.Reply.{Reply}
use Rattle.operation_model.specs.declared.replies.Reply.TheVariants as replies
use Rattle.operation_model.specs.Answers.{IsCourse, act_reply}
use Rattle.operation_model.specs.Courses.{world}
use Rattle.operation_model.specs.Deeds.{Begun}
use Rattle.operation_model.specs.Fits.{Fits, FitsOwn}
use Rattle.operation_model.specs.Kept.{after_acts}
use Rattle.operation_model.specs.Openings.{Opening}
use Rattle.operation_model.specs.Turns.{Calls, IfOpen, IsNextAct, IsWholeTurn, fresh, grown, open_turn, turn_left, with_act}
use Rattle.operation_model.proofs.GrantedTurns.{is_none-some, not-true}
use Rattle.actor_dispatch.specs.declared.asking.Short.{Short}
use Rattle.actor_dispatch.specs.declared.asking.Short.TheVariants as shorts
use Rattle.cluster_calls.specs.Calling.{IsAsked, IsSame, Knows}
use Rattle.actor_dispatch.specs.Calling.{IsAnswered, short_of}
use Rattle.actor_dispatch.specs.Turning.{GoesOn, IsAfter, IsDue, IsInTurn, IsWhole, LeavesNone, Loses, OwesIfBorn, turns_left}
use Rattle.actor_dispatch.proofs.Leaving.{among-filter, leaves-then, part-refl}
use Rattle.cluster_calls.proofs.Same.{same-then}
use Rattle.actor_dispatch.proofs.Replies.{Answer, halted, unknown, down, granted, act-answered, rest-answered}

-- ---- steps

-- what is left is its next step, and then what is left after it
step-then : (l now : Left) (s : Step) (more : List Actor) → s ≡ next_step l → now ≡ after_step l → visible (whole l more) ≡ visible (step_by_step s now more)
step-then l now s more is after =
    ap visible (turn_is_its_next_step l.instrs l.names l.root more)
    ∙ ap (λ x. visible (step_by_step x (after_step l) more)) (sym is) ∙ ap (λ x. visible (step_by_step s x more)) (sym after)

none-owed : (t : TurnState) → is_some t.owed ≡ false → t.owed ≡ None
none-owed t is = is_none-some t.owed is

module _ (o : Opening) (p : Knows) (a : Actor) (old new : TurnState) (turn : IsInTurn o p a old) (code : List Behaviour) (code_is : code ≡ (let x = o.script in x.code)) (behaviour : new.behaviour ≡ old.behaviour) (s : Step)
    (next_is : s ≡ next_step (left_of code old)) (then_is : left_of code new ≡ after_step (left_of code old)) (ended : new.ended ≡ is_end s) (owed : is_some new.owed ≡ is_spawn s) where
  is : s ≡ next_step (let x = o.script in left_of x.code old)
  is = next_is ∙ ap (λ bs. next_step (left_of bs old)) code_is

  after : (let x = o.script in left_of x.code new) ≡ after_step (let x = o.script in left_of x.code old)
  after = ap (λ bs. left_of bs new) (sym code_is) ∙ then_is ∙ ap (λ bs. after_step (left_of bs old)) code_is

  code-in : (let x = o.script in new.behaviour < length x.code)
  code-in = (let x = o.script in subst (λ b. b < length x.code) (sym behaviour) turn.in_code)

  then-step : (more : List Actor) → (let x = o.script in let t = turn.turn in visible (whole (turn_left x.code t.begun) (t.children ++ more)) ≡ after_acts t.acts (visible (step_by_step s (left_of x.code new) more)))
  then-step more = (let x = o.script in let t = turn.turn in turn.reached more ∙ ap (after_acts t.acts) (step-then (left_of x.code old) (left_of x.code new) s more is after))

  -- the act is due
  pub next-due : (act : Act) → s ≡ steps.Act act → IsDue o p a act new
  next-due act same = record {
    calls = turn.calls;
    turn = turn.turn;
    is_open = turn.is_open;
    actor = turn.actor;
    in_code = code-in;
    running = ended ∙ ap is_end same;
    owed = owed ∙ ap is_spawn same;
    next = λ more. then-step more ∙ (let x = o.script in let t = turn.turn in ap (λ y. after_acts t.acts (visible (step_by_step y (left_of x.code new) more))) same);
  }

  -- after some work the turn goes on
  pub work-goes_on : (k : ℕ) → s ≡ steps.Work k → IsInTurn o p a new
  work-goes_on k same = record {
    calls = turn.calls;
    turn = turn.turn;
    is_open = turn.is_open;
    actor = turn.actor;
    in_code = code-in;
    running = ended ∙ ap is_end same;
    none_owed = none-owed new (owed ∙ ap is_spawn same);
    reached = λ more. then-step more ∙ (let x = o.script in let t = turn.turn in ap (λ y. after_acts t.acts (visible (step_by_step y (left_of x.code new) more))) same);
  }

  -- at its end it is whole
  pub end-whole : s ≡ steps.End → IsWhole o p a new
  end-whole same =
      let x = o.script in
      let t = turn.turn in
      record {
        calls = turn.calls;
        turn = turn.turn;
        is_open = turn.is_open;
        actor = turn.actor;
        ended = ended ∙ ap is_end same;
        all =
            ap (λ cs. visible (whole (turn_left x.code t.begun) cs)) (sym (append-nil t.children))
            ∙ then-step [] ∙ ap (λ y. after_acts t.acts (visible (step_by_step y (left_of x.code new) []))) same
            ∙ ap (λ done. (done, new.names)) (append-nil t.acts);
      }

-- a turn that begins
pub starts : (o : Opening) (p : Knows) (b : Begun) (t : TurnState) → calls_of p.number p.seen ≡ p.own → open_turn p.own ≡ Some (fresh b)
    → (let x = o.script in t.behaviour < length x.code) → t ≡ at_start b.behaviour b.list (names_at_start b.refs b.locals) b.root → IsInTurn o p b.actor t
starts o p b t calls is_open in_code is =
    let x = o.script in
    record {
      calls = calls;
      turn = fresh b;
      is_open = is_open;
      actor = refl;
      in_code = in_code;
      running = ap (λ (y : TurnState). y.ended) is;
      none_owed = ap (λ (y : TurnState). y.owed) is;
      reached = λ more. ap (λ y. after_acts [] (visible (whole (left_of x.code y) more))) (sym is);
    }

-- ---- what fits

first-act : (act : Act) (now : Left) → (more : List Act) × ((let v = visible (step_by_step (steps.Act act) now []) in v.0) ≡ act ∷ more)
first-act (acts.Spawn b) now = ([], refl)
first-act (acts.Send t refs) now = (let v = visible (whole now []) in v.0, refl)
first-act (acts.Drop t) now = (let v = visible (whole now []) in v.0, refl)
first-act acts.Retire now = (let v = visible (whole now []) in v.0, refl)

fits-own : (o : Opening) (p : Knows) (op : Op) → calls_of p.number p.seen ≡ p.own → FitsOwn o p.own op → Fits o p.seen op p.number
fits-own o p op calls fits = subst (λ own. FitsOwn o own op) (sym calls) fits

pub act-fits : (o : Opening) (p : Knows) (a : Actor) (act : Act) (t : TurnState) → IsDue o p a act t → Fits o p.seen (ops.Act a act) p.number
act-fits o p a act t due =
    let x = o.script in
    let turn = due.turn in
    let first = first-act act (left_of x.code t) in
    fits-own o p (ops.Act a act) due.calls (subst (IfOpen (IsNextAct x.code a act)) (sym due.is_open) (
      due.actor,
      (
        first.0,
        ap (λ cs. (let v = visible (whole (turn_left x.code turn.begun) cs) in v.0)) (sym (append-nil turn.children))
            ∙ ap (λ (v : List Act × Names). v.0) (due.next []) ∙ ap (λ done. turn.acts ++ done) first.1,
      ),
    ))

pub rest-fits : (o : Opening) (p : Knows) (a : Actor) (t : TurnState) (locals : List (List ℕ × Actor)) → IsWhole o p a t → local_names locals ≡ t.names → Fits o p.seen (ops.Rest a locals) p.number
rest-fits o p a t locals all names =
    let x = o.script in
    fits-own o p (ops.Rest a locals) all.calls (subst (IfOpen (IsWholeTurn x.code a locals)) (sym all.is_open) (
      all.actor,
      ap (λ (v : List Act × Names). v.0) all.all,
      ap (λ (v : List Act × Names). v.1) all.all ∙ sym names,
    ))

some-is : {A : Type 0} (v : Option A) → is_some v ≡ true → IsSome v
some-is None e = absurd (false≢true e)
some-is (Some x) e = refl

-- ---- calls

apart-nodes : (a b : Actor) → not (b.node == a.node) ≡ true → same_actor a b ≡ false
apart-nodes a b other =
    false_from_ne_true (same_actor a b)
    (λ same. false≢true (sym (not-true (b.node == a.node) other) ∙ subst (λ (x : Actor). (x.node == a.node) ≡ true) (same_actor-equal a b same) (eqb-refl a.node)))

-- the call is the last one of a course
pub last-course : (o : Opening) (p q : Knows) (op : Op) (r : Reply) → (asked : IsAsked o op r p q) → IsCourse o (entry p.number op r ∷ asked.last.0)
last-course o p q op r asked = subst (IsCourse o) asked.last.1 asked.course

after-one_more : (done : List Act) (act : Act) (v : List Act × Names) → after_acts done (act ∷ v.0, v.1) ≡ after_acts (done ++ act ∷ []) v
after-one_more done act v = λ i. (sym (append_assoc done (act ∷ []) v.0) i, v.1)

-- an act without a child, and then what is left
plain-step : (act : Act) (now : Left) (more : List Actor) → is_spawn (steps.Act act) ≡ false
    → visible (step_by_step (steps.Act act) now more) ≡ (let v = visible (whole now more) in (act ∷ v.0, v.1))
plain-step (acts.Spawn b) now more plain = absurd (true≢false plain)
plain-step (acts.Send t refs) now more plain = refl
plain-step (acts.Drop t) now more plain = refl
plain-step acts.Retire now more plain = refl

-- which reply the short answer stands for
done-act : (n : ℕ) (r w : Reply) → shorts.Done ≡ short_of r → Answer n r (r ≡ w) → (r ≡ w) × (shorts.Done ≡ short_of w)
done-act n r w is (halted why same) = absurd (let no : shorts.Done ≡ shorts.Other = is ∙ ap short_of same in cc)
done-act n r w is (unknown same) = absurd (let no : shorts.Done ≡ shorts.Other = is ∙ ap short_of same in cc)
done-act n r w is (down same) = absurd (let no : shorts.Done ≡ shorts.Down = is ∙ ap short_of same in cc)
done-act n r w is (granted same) = (same, is ∙ ap short_of same)

born-act : (n : ℕ) (c : Actor) (r w : Reply) → shorts.Born c ≡ short_of r → Answer n r (r ≡ w) → (r ≡ w) × (shorts.Born c ≡ short_of w)
born-act n c r w is (halted why same) = absurd (let no : shorts.Born c ≡ shorts.Other = is ∙ ap short_of same in cc)
born-act n c r w is (unknown same) = absurd (let no : shorts.Born c ≡ shorts.Other = is ∙ ap short_of same in cc)
born-act n c r w is (down same) = absurd (let no : shorts.Born c ≡ shorts.Down = is ∙ ap short_of same in cc)
born-act n c r w is (granted same) = (same, is ∙ ap short_of same)

-- no act's answer is that its node is down
act-not_down : (a : Actor) (act : Act) (o : Opening) (h : Calls) → shorts.Down ≡ short_of (act_reply a act (world o h)) → ⊥
act-not_down a (acts.Spawn b) o h is = absurd (cc)
act-not_down a (acts.Send t refs) o h is = absurd (cc)
act-not_down a (acts.Drop t) o h is = absurd (cc)
act-not_down a acts.Retire o h is = absurd (cc)

down-act : (n : ℕ) (r w : Reply) → shorts.Down ≡ short_of r → (shorts.Down ≡ short_of w → ⊥) → Answer n r (r ≡ w) → r ≡ replies.Down n
down-act n r w is none (halted why same) = absurd (let no : shorts.Down ≡ shorts.Other = is ∙ ap short_of same in cc)
down-act n r w is none (unknown same) = absurd (let no : shorts.Down ≡ shorts.Other = is ∙ ap short_of same in cc)
down-act n r w is none (down same) = same
down-act n r w is none (granted same) = absurd (none (is ∙ ap short_of same))

-- the answer to an act without a child
done-reply : (a : Actor) (act : Act) (o : Opening) (h : Calls) → shorts.Done ≡ short_of (act_reply a act (world o h)) → (act_reply a act (world o h) ≡ replies.Done) × (is_spawn (steps.Act act) ≡ false)
done-reply a (acts.Spawn b) o h is = absurd (cc)
done-reply a (acts.Send t refs) o h is = (refl, refl)
done-reply a (acts.Drop t) o h is = (refl, refl)
done-reply a acts.Retire o h is = (refl, refl)

same-born : (c d : Actor) → shorts.Born c ≡ shorts.Born d → c ≡ d
same-born c d is = cc

-- and with one
born-reply : (c a : Actor) (act : Act) (o : Opening) (h : Calls) → shorts.Born c ≡ short_of (act_reply a act (world o h)) → (act_reply a act (world o h) ≡ replies.Born c) × ((b : ℕ) × (act ≡ acts.Spawn b))
born-reply c a (acts.Spawn b) o h is = (ap replies.Born (sym (same-born c _ is)), (b, refl))
born-reply c a (acts.Send t refs) o h is = absurd (cc)
born-reply c a (acts.Drop t) o h is = absurd (cc)
born-reply c a acts.Retire o h is = absurd (cc)

module _ (o : Opening) (p q : Knows) (a : Actor) (act : Act) (t : TurnState) (due : IsDue o p a act t) where
  -- the act was done, and gave birth to nobody
  pub done-goes_on : IsAnswered o (ops.Act a act) shorts.Done p q → LeavesNone p.own q.own × IsInTurn o q a t
  done-goes_on answered =
      let x = o.script in
      let turn = due.turn in
      let asked = answered.asked in
      let said = done-act a.node answered.reply _ answered.is (act-answered o asked.last.0 p.number answered.reply a act (last-course o p q (ops.Act a act) answered.reply asked)) in
      let plain = done-reply a act o asked.last.0 said.1 in
      let own : q.own ≡ entry p.number (ops.Act a act) replies.Done ∷ p.own = asked.own ∙ ap (λ r. entry p.number (ops.Act a act) r ∷ p.own) (said.0 ∙ plain.0) in (
        subst (λ (own : Calls). LeavesNone p.own own) (sym own) (part-refl (turns_left p.own)),
        record {
          calls = asked.calls;
          turn = with_act act None turn;
          is_open = ap open_turn own ∙ ap (λ v. grown act None v) due.is_open;
          actor = due.actor;
          in_code = due.in_code;
          running = due.running;
          none_owed = none-owed t (due.owed ∙ plain.1);
          reached = λ more.
              ap (λ cs. visible (whole (turn_left x.code turn.begun) (cs ++ more))) (append-nil turn.children)
              ∙ due.next more ∙ ap (after_acts turn.acts) (plain-step act (left_of x.code t) more plain.1)
              ∙ after-one_more turn.acts act (visible (whole (left_of x.code t) more));
        },
      )

  -- a child was born, so its birth was owed
  born-owed : (c : Actor) → IsAnswered o (ops.Act a act) (shorts.Born c) p q → (q.own ≡ entry p.number (ops.Act a act) (replies.Born c) ∷ p.own) × ((b : ℕ) × (act ≡ acts.Spawn b))
  born-owed c answered =
      let asked = answered.asked in
      let said = born-act a.node c answered.reply _ answered.is (act-answered o asked.last.0 p.number answered.reply a act (last-course o p q (ops.Act a act) answered.reply asked)) in
      let born = born-reply c a act o asked.last.0 said.1 in
      (asked.own ∙ ap (λ r. entry p.number (ops.Act a act) r ∷ p.own) (said.0 ∙ born.0), born.1)

  pub born-is_owed : (c : Actor) → IsAnswered o (ops.Act a act) (shorts.Born c) p q → is_some t.owed ≡ true
  born-is_owed c answered = (let born = born-owed c answered in due.owed ∙ ap (λ x. is_spawn (steps.Act x)) born.1.1)

  -- and the turn goes on, once the child's name is bound
  pub born-goes_on : (c : Actor) (t' : TurnState) → IsAnswered o (ops.Act a act) (shorts.Born c) p q → t' ≡ record t { names = with_child t.owed c t.names; owed = None }
      → LeavesNone p.own q.own × IsInTurn o q a t'
  born-goes_on c t' answered now =
      let x = o.script in
      let turn = due.turn in
      let asked = answered.asked in
      let born = born-owed c answered in
      let after = record t { names = with_child t.owed c t.names; owed = None } in
      let l = left_of x.code t in (
        subst (λ (own : Calls). LeavesNone p.own own) (sym born.0) (part-refl (turns_left p.own)),
        subst (IsInTurn o q a) (sym now) (record {
          calls = asked.calls;
          turn = with_act act (Some c) turn;
          is_open = ap open_turn born.0 ∙ ap (λ v. grown act (Some c) v) due.is_open;
          actor = due.actor;
          in_code = due.in_code;
          running = due.running;
          none_owed = refl;
          reached = λ more.
              ap (λ cs. visible (whole (turn_left x.code turn.begun) cs)) (append_assoc turn.children (c ∷ []) more)
              ∙ due.next (c ∷ more) ∙ ap (λ y. after_acts turn.acts (visible (step_by_step (steps.Act y) l (c ∷ more)))) born.1.1
              ∙ ap (λ y. after_acts turn.acts (y ∷ (let v = visible (whole (after_birth c l) more) in v.0), (let v = visible (whole (after_birth c l) more) in v.1))) (sym born.1.1)
              ∙ after-one_more turn.acts act (visible (whole (after_birth c l) more));
        }),
      )

  -- the node is down: the turn is lost
  pub down-loses : IsAnswered o (ops.Act a act) shorts.Down p q → Loses a p.own q.own
  down-loses answered =
      let asked = answered.asked in
      let is = down-act a.node answered.reply _ answered.is (act-not_down a act o asked.last.0) (act-answered o asked.last.0 p.number answered.reply a act (last-course o p q (ops.Act a act) answered.reply asked)) in
      let own : q.own ≡ entry p.number (ops.Act a act) (replies.Down a.node) ∷ p.own = asked.own ∙ ap (λ r. entry p.number (ops.Act a act) r ∷ p.own) is in
      subst (λ (own : Calls). Loses a p.own own) (sym own)
      (λ b among. (let kept = among-filter (λ (b : Actor). not (b.node == a.node)) (turns_left p.own) b among in (kept.0, apart-nodes a b kept.1)))

module _ (o : Opening) (p q : Knows) (a : Actor) (locals : List (List ℕ × Actor)) where
  -- the turn ends
  pub rest-loses : IsAnswered o (ops.Rest a locals) shorts.Done p q → Loses a p.own q.own
  rest-loses answered =
      let asked = answered.asked in
      let is = (done-act a.node answered.reply replies.Done answered.is (rest-answered o asked.last.0 p.number answered.reply a locals (last-course o p q (ops.Rest a locals) answered.reply asked))).0 in
      let own : q.own ≡ entry p.number (ops.Rest a locals) replies.Done ∷ p.own = asked.own ∙ ap (λ r. entry p.number (ops.Rest a locals) r ∷ p.own) is in
      subst (λ (own : Calls). Loses a p.own own) (sym own)
      (λ b among. (let kept = among-filter (λ (b : Actor). not (same_actor a b)) (turns_left p.own) b among in (kept.0, not-true (same_actor a b) kept.1)))

  pub rest-down-loses : IsAnswered o (ops.Rest a locals) shorts.Down p q → Loses a p.own q.own
  rest-down-loses answered =
      let asked = answered.asked in
      let is = down-act a.node answered.reply replies.Done answered.is (λ no. absurd (cc)) (rest-answered o asked.last.0 p.number answered.reply a locals (last-course o p q (ops.Rest a locals) answered.reply asked)) in
      let own : q.own ≡ entry p.number (ops.Rest a locals) (replies.Down a.node) ∷ p.own = asked.own ∙ ap (λ r. entry p.number (ops.Rest a locals) r ∷ p.own) is in
      subst (λ (own : Calls). Loses a p.own own) (sym own)
      (λ b among. (let kept = among-filter (λ (b : Actor). not (b.node == a.node)) (turns_left p.own) b among in (kept.0, apart-nodes a b kept.1)))

-- what comes of an act by its answer
pub after-goes_on : (o : Opening) (p q q' : Knows) (a : Actor) (act : Act) (t t' : TurnState) (short : Short) (on : Bool) → IsDue o p a act t
    → IsAnswered o (ops.Act a act) short p q → IsAfter short on q q' t t' → GoesOn on (LeavesNone p.own q'.own × IsInTurn o q' a t') (Loses a p.own q'.own)
after-goes_on o p q q' a act t t' shorts.Done on due answered after =
    rw (after.0, after.1, after.2) (done-goes_on o p q a act t due answered)
after-goes_on o p q q' a act t t' (shorts.Born c) on due answered after =
    rw (after.0, after.1) (born-goes_on o p q a act t due c t' answered after.2)
after-goes_on o p q q' a act t t' shorts.Down on due answered after =
    rw (after.0, after.1) (down-loses o p q a act t due answered)
after-goes_on o p q q' a act t t' shorts.Other on due answered after = absurd after

pub act-owes : (o : Opening) (p q : Knows) (a : Actor) (act : Act) (t : TurnState) (short : Short) → IsDue o p a act t → IsAnswered o (ops.Act a act) short p q → OwesIfBorn short t.owed
act-owes o p q a act t shorts.Done due answered = tt
act-owes o p q a act t (shorts.Born c) due answered = some-is t.owed (born-is_owed o p q a act t due c answered)
act-owes o p q a act t shorts.Down due answered = tt
act-owes o p q a act t shorts.Other due answered = tt

-- the next round of a turn that goes on
pub went-on : (o : Opening) (first p q : Knows) (a : Actor) (t : TurnState) → IsSame first p → IsSame p q → LeavesNone first.own p.own → LeavesNone p.own q.own × IsInTurn o q a t
    → IsSame first q × LeavesNone first.own q.own × IsInTurn o q a t
went-on o first p q a t before same leaves now = (same-then first p q before same, leaves-then first.own p.own q.own leaves now.0, now.1)

-- what follows where it goes on, and where it is lost
pub goes-on : (on : Bool) (P Q : Type 0) → on ≡ true → GoesOn on P Q → P
goes-on true P Q e follows = follows
goes-on false P Q e follows = absurd (false≢true e)

pub is-lost : (on : Bool) (P Q : Type 0) → on ≡ false → GoesOn on P Q → Q
is-lost false P Q e follows = follows
is-lost true P Q e follows = absurd (true≢false e)
