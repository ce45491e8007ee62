-- What the end of a worker tells of the world that the workers leave.
use Rattle.std.proofs.Common.{◌≡◌, ◌==◌, ◌||◌, ◌++◌, ℕ, Bool, true, false, cond, List, [], ◌∷◌, Option, Some, None, refl, sym, ◌∙◌, append-nil, reverse, ap, subst, inl, inr}
use Rattle.std.specs.Prelude.{IfErr, IfOk, OnOk, Result, Ok, Err}
use Rattle.std.specs.List.{AllByRecursion, list_any}
use Rattle.std.proofs.lemmas.Bool.{false≢true}
use Rattle.std.proofs.lemmas.Option.{none-some, same_Some}
use Rattle.std.proofs.lemmas.List.Folds.{list_any-append}
use Rattle.crgc_ids.specs.Actor.{Actor}
use Rattle.crgc_ids.specs.declared.NoMemory.{NoMemory}
use Rattle.crgc_ids.specs.declared.Which.{Which}
use Rattle.history_model.specs.declared.events.Event.{Event}
use Rattle.history_model.specs.declared.records.Verdict.{Verdict}
use Rattle.history_model.specs.Cluster.{Cluster}
use Rattle.history_model.specs.Story.{Story}
use Rattle.history_model.proofs.Basics.{eqb-refl}
use Rattle.behaviour_lang.specs.declared.act.Act.{Act}
use Rattle.behaviour_lang.specs.declared.act.Act.TheVariants as acts
use Rattle.turn_lock.specs.declared.object.Entry.{Entry}
use Rattle.turn_lock.specs.History.{IsMadeOf, calls_of}
use Rattle.journal_model.specs.Verdicts.{AreVerdicts}
use Rattle.script_reader.specs.Valid.{IsScript}
use Rattle.run_model.specs.Doing.{cluster_of}
use Rattle.run_model.specs.Follows.{CouldPass, IsRun, is_over}
use Rattle.run_model.specs.Schedule.{IsWithinLimits}
use Rattle.operation_model.specs.declared.operations.Op.{Op}
use Rattle.operation_model.specs.declared.operations.Op.TheVariants as ops
use Rattle.operation_model.specs.declared.replies.Halt.{Halt}
use Rattle.operation_model.specs.declared.replies.Reply.{Reply}
use Rattle.operation_model.specs.declared.replies.Reply.TheVariants as replies
use Rattle.operation_model.specs.Answers.{IsCourse, IsGranted, IsReply, MayAnswer, Refusal, Unless, act_reply, first_refusal, nodes_of, refusals, refused, unknown}
use Rattle.operation_model.specs.Courses.{claim_at, halt_after, halt_at, is_end, verdicts, was_all_done, world}
use Rattle.operation_model.specs.Deeds.{deed_of}
use Rattle.operation_model.specs.Openings.{IsNew, Opening}
use Rattle.operation_model.specs.Turns.{Calls}
use Rattle.operation_model.proofs.CourseLaws.{kept-course, limit-course}
use Rattle.operation_model.proofs.OverCourses.{over-course}
use Rattle.cluster_calls.specs.Calling.{last_reply}
use Rattle.collector.specs.Collected.{Collected}
use Rattle.world_object.specs.Locked.{IsStateOf}
use Rattle.world_object.specs.State.{ClusterState, as_opening}
use Rattle.script_workers.specs.Ended.{CanBeClosed, IsOverUnlessHalted, IsWorked, halt_at_limit}
use Rattle.script_workers.specs.Returned.{StandsIfUp}
use Rattle.script_workers.specs.declared.runs.Worked.{Worked}
use Rattle.script_workers.specs.Leading.{ends_work, has_end}
use Rattle.script_workers.proofs.Within.{course-within}

-- ---- ends among calls

abbrev ends : Entry Op Reply → Bool
ends e = ends_work e.reply

-- the last call was an end
pub last-ends : (calls : Calls) (r : Reply) → ends_work r ≡ true → last_reply calls ≡ Some r → has_end calls ≡ true
last-ends [] r is last = absurd (none-some r last)
last-ends (e ∷ earlier) r is last = (let here : ends e ≡ true = ap ends_work (same_Some e.reply r last) ∙ is in rw here refl)

-- so a worker's last call is, however the worker ends
pub work-ends : (calls : Calls) (r : Result (Unit {0}) Halt) → OnOk r (last_reply calls ≡ Some replies.AllDone)
    → IfErr r (λ why. last_reply calls ≡ Some (replies.Halted why)) → has_end calls ≡ true
work-ends calls (Ok done) last halted = last-ends calls replies.AllDone refl last
work-ends calls (Err why) last halted = last-ends calls (replies.Halted why) refl halted

or-left : (a b : Bool) → a ≡ true → (a || b) ≡ true
or-left a b is = rw is refl

or-right : (a b : Bool) → b ≡ true → (a || b) ≡ true
or-right true b is = refl
or-right false b is = is

by_or : (a b : Bool) (G : Type 0) → (a || b) ≡ true → (a ≡ true → G) → (b ≡ true → G) → G
by_or true b G is left right = left refl
by_or false b G is left right = right is

pub end-first : (xs ys : Calls) → has_end xs ≡ true → has_end (xs ++ ys) ≡ true
end-first xs ys is = list_any-append ends xs ys ∙ or-left (has_end xs) (has_end ys) is

pub end-later : (xs ys : Calls) → has_end ys ≡ true → has_end (xs ++ ys) ≡ true
end-later xs ys is = list_any-append ends xs ys ∙ or-right (has_end xs) (has_end ys) is

-- an end is among the calls of its pass
end-of_pass : (calls : Calls) → has_end calls ≡ true → (p : ℕ) × (has_end (calls_of p calls) ≡ true)
end-of_pass [] is = absurd (false≢true is)
end-of_pass (e ∷ earlier) is =
    by_or (ends e) (has_end earlier) ((p : ℕ) × (has_end (calls_of p (e ∷ earlier)) ≡ true)) is
    (λ here. (e.pass, subst (λ b. has_end (cond b (e ∷ calls_of e.pass earlier) (calls_of e.pass earlier)) ≡ true) (sym (eqb-refl e.pass)) (or-left (ends e) (has_end (calls_of e.pass earlier)) here)))
    (λ before. (let x = end-of_pass earlier before in (x.0, kept (e.pass == x.0) (calls_of x.0 earlier) x.1)))
  where
    kept : (b : Bool) (rest : Calls) → has_end rest ≡ true → has_end (cond b (e ∷ rest) rest) ≡ true
    kept true rest found = or-right (ends e) (has_end rest) found
    kept false rest found = found

pass-end : (p : ℕ) (calls : Calls) → has_end (calls_of p calls) ≡ true → has_end calls ≡ true
pass-end p [] is = absurd (false≢true is)
pass-end p (e ∷ earlier) is = by_pass (pass-end p earlier) (e.pass == p) is
  where
    by_pass : (has_end (calls_of p earlier) ≡ true → has_end earlier ≡ true) → (b : Bool) → has_end (cond b (e ∷ calls_of p earlier) (calls_of p earlier)) ≡ true → has_end (e ∷ earlier) ≡ true
    by_pass before true found =
        by_or (ends e) (has_end (calls_of p earlier)) (has_end (e ∷ earlier) ≡ true) found
        (or-left (ends e) (has_end earlier))
        (λ later. or-right (ends e) (has_end earlier) (before later))
    by_pass before false found = or-right (ends e) (has_end earlier) (before found)

-- a history that is made of the calls has their ends
pub made-end : (calls h : Calls) → IsMadeOf calls h → has_end calls ≡ true → has_end h ≡ true
made-end calls h made is =
    let x = end-of_pass calls is in
    pass-end x.0 h (subst (λ l. has_end l ≡ true) (sym (made x.0)) x.1)

-- ---- of the ends, only one is no halt: that nothing was left to do

abbrev is_done : Reply → Bool
is_done replies.AllDone = true
is_done r = false

abbrev NoneDone : List Refusal → Type 0
NoneDone cs = list_any (λ c. is_done c.reply) cs ≡ false

first-not_done : (cs : List Refusal) (r : Reply) → NoneDone cs → first_refusal cs ≡ Some r → is_done r ≡ false
first-not_done [] r none is = absurd (none-some r is)
first-not_done (c ∷ cs) r none is = by_holds (first-not_done cs r) c.holds (is_done c.reply) refl none is
  where
    by_holds : (NoneDone cs → first_refusal cs ≡ Some r → is_done r ≡ false) → (v b : Bool) → is_done c.reply ≡ b → (b || list_any (λ x. is_done x.reply) cs) ≡ false → cond v (Some c.reply) (first_refusal cs) ≡ Some r → is_done r ≡ false
    by_holds later v true same all first = absurd (false≢true (sym all))
    by_holds later true false same all first = sym (ap is_done (same_Some c.reply r first)) ∙ same
    by_holds later false false same all first = later all first

differs : {A : Type 0} (r x : Reply) → r ≡ x → is_done x ≡ false → is_done r ≡ true → A
differs r x is not done = absurd (false≢true (sym (ap is_done is ∙ not) ∙ done))

act-not_done : (a : Actor) (act : Act) (w : List Event) → is_done (act_reply a act w) ≡ false
act-not_done a (acts.Spawn b) w = refl
act-not_done a (acts.Send t refs) w = refl
act-not_done a (acts.Drop t) w = refl
act-not_done a acts.Retire w = refl

module _ (o : Opening) (h : Calls) (w : List Event) where
  none-done : (op : Op) → NoneDone (let s = o.script in unknown s.nodes (nodes_of op) ++ refusals s (claim_at o h) op w)
  none-done (ops.Claim n) = refl
  none-done ops.Wake = refl
  none-done (ops.Take a) = refl
  none-done (ops.Act a act) = refl
  none-done (ops.Rest a locals) = refl
  none-done (ops.Flush a) = refl
  none-done (ops.Publish n) = refl
  none-done (ops.Window d) = refl
  none-done (ops.Remove d) = refl
  none-done (ops.Carry f d) = refl
  none-done (ops.Hand n x k) = refl
  none-done (ops.Sweep v) = refl
  none-done ops.GiveUp = refl
  none-done (ops.Refill skip) = refl
  none-done ops.Finished = refl

  granted-done : (op : Op) (r : Reply) → IsGranted o h op w r → is_done r ≡ true → is_end (deed_of op r) ≡ true
  granted-done (ops.Claim n) r is done = differs r replies.Done is refl done
  granted-done ops.Wake r is done = differs r _ is.1 refl done
  granted-done (ops.Take a) r is done = differs r _ is.1 refl done
  granted-done (ops.Act a act) r is done = differs r (act_reply a act w) is (act-not_done a act w) done
  granted-done (ops.Rest a locals) r is done = differs r replies.Done is refl done
  granted-done (ops.Flush a) r is done = differs r replies.Done is refl done
  granted-done (ops.Publish n) r is done = differs r replies.Done is refl done
  granted-done (ops.Window d) r is done = differs r replies.Done is refl done
  granted-done (ops.Remove d) r is done = differs r replies.Done is refl done
  granted-done (ops.Carry f d) r is done = differs r replies.Done is refl done
  granted-done (ops.Hand n x k) r is done = differs r _ is.2 refl done
  granted-done (ops.Sweep v) r is done = differs r replies.Done is refl done
  granted-done ops.GiveUp r is done = absurd is
  granted-done (ops.Refill skip) r is done = differs r _ is refl done
  granted-done ops.Finished r is done = ap (λ x. is_end (deed_of ops.Finished x)) is

module _ (o : Opening) (h : Calls) where
  answer-done : (op : Op) (r : Reply) (v : Option Reply) → refused o.script (claim_at o h) op (world o h) ≡ v → Unless v r (IsGranted o h op (world o h) r) → is_done r ≡ true → is_end (deed_of op r) ≡ true
  answer-done op r None is granted done = granted-done o h (world o h) op r granted done
  answer-done op r (Some x) is same done =
      let s = o.script in
      differs r x same (first-not_done (unknown s.nodes (nodes_of op) ++ refusals s (claim_at o h) op (world o h)) x (none-done o h (world o h) op) is) done

  reply-done : (op : Op) (r : Reply) → MayAnswer o h op r → is_done r ≡ true → is_end (deed_of op r) ≡ true
  reply-done op r (inl made) done = answer-done op r (refused o.script (claim_at o h) op (world o h)) refl made.0 done
  reply-done op r (inr (inl limit)) done = differs r _ limit.1 refl done
  reply-done op r (inr (inr memory)) done = differs r _ memory refl done

-- where a course has an end and has not halted, nothing was left to do at one of its calls
pub end-done : (o : Opening) (h : Calls) → IsCourse o h → halt_at o h ≡ None → has_end h ≡ true → was_all_done h ≡ true
end-done o [] course none is = absurd (false≢true is)
end-done o (e ∷ h) course none is = by_reply (end-done o h course.2) e.reply refl none is
  where
    all_done : (r : Reply) → e.reply ≡ r → is_done r ≡ true → halt_at o h ≡ None → was_all_done (e ∷ h) ≡ true
    all_done r same done before =
        let fair : MayAnswer o h e.op e.reply = subst (λ v. IsReply o h v e.op e.reply) before course.1 in
        or-left (is_end (deed_of e.op e.reply)) (was_all_done h) (reply-done o h e.op e.reply fair (ap is_done same ∙ done))

    by_reply : (halt_at o h ≡ None → has_end h ≡ true → was_all_done h ≡ true) → (r : Reply) → e.reply ≡ r → halt_after r (halt_at o h) ≡ None → (ends_work r || has_end h) ≡ true → was_all_done (e ∷ h) ≡ true
    by_reply earlier (replies.Halted why) same halted found = absurd (none-some why (sym halted))
    by_reply earlier replies.AllDone same halted found = all_done replies.AllDone same refl halted
    by_reply earlier r same halted found = or-right (is_end (deed_of e.op e.reply)) (was_all_done h) (earlier halted found)

-- ---- the world that they leave

module _ (start : ClusterState) (state : ClusterState) (h : Calls) (script : IsScript start.script) (new : IsNew (as_opening start)) (stands : IsStateOf start h state) (found : has_end h ≡ true) (left : Story) (cluster : left.cluster ≡ cluster_of state.script) (past : left.past ≡ state.past) where
  same : world (as_opening start) h ≡ left.past
  same = sym (past ∙ stands.past)

  leaves : (w : Option Which) → state.halt ≡ halt_at_limit w → IsOverUnlessHalted start.script left w
  leaves None none =
      let o = as_opening start in
      let was = end-done o h stands.course (sym stands.halt ∙ none) found in
      subst (λ x. is_over start.script x ≡ true) same (over-course o new h stands.course was)
  leaves (Some limit) halted =
      let o = as_opening start in
      subst (λ x. CouldPass start.script x limit) same (limit-course o new h stands.course limit (sym stands.halt ∙ halted))

  pub is-worked : (w : Option Which) → state.halt ≡ halt_at_limit w → IsWorked start.script left w
  is-worked w halted =
      let o = as_opening start in
      let kept = kept-course o new h stands.course in
      record {
        cluster = cluster ∙ ap cluster_of stands.script;
        run = subst (IsRun start.script) same kept.run;
        within = subst (IsWithinLimits (cluster_of start.script)) same (course-within o script new h stands.course);
        ends = leaves w halted;
      }

  -- so the run can be closed, with the collectors that stand at its history
  module _ (none : start.verdicts ≡ []) (cs : List Collected) (back : AllByRecursion (StandsIfUp (cluster_of start.script) (world (as_opening start) h)) cs) where
    same-cluster : cluster_of start.script ≡ left.cluster
    same-cluster = sym (cluster ∙ ap cluster_of stands.script)

    at-left : (P : Cluster → List Event → Type 0) → P (cluster_of start.script) (world (as_opening start) h) → P left.cluster left.past
    at-left P is = subst (λ cl. P cl left.past) same-cluster (subst (P (cluster_of start.script)) same is)

    pub verdicts-left : (vs : List Verdict) → reverse vs ≡ state.verdicts → AreVerdicts left.cluster left.past (reverse vs)
    verdicts-left vs is =
        let kept = kept-course (as_opening start) new h stands.course in
        let listed : verdicts h ≡ reverse vs = sym (is ∙ stands.verdicts ∙ ap (λ (l : List Verdict). verdicts h ++ l) none ∙ append-nil (verdicts h)) in
        at-left (λ cl p. AreVerdicts cl p (reverse vs)) (subst (AreVerdicts (cluster_of start.script) (world (as_opening start) h)) listed kept.hands.verdicts_are)

    pub within-left : IsWithinLimits left.cluster left.past
    within-left = at-left IsWithinLimits (course-within (as_opening start) script new h stands.course)

    pub back-left : AllByRecursion (StandsIfUp left.cluster left.past) cs
    back-left = at-left (λ cl p. AllByRecursion (StandsIfUp cl p) cs) back

-- the answer of a run of turns
pub worked-of : (start state : ClusterState) (h : Calls) → IsScript start.script → IsNew (as_opening start) → IsStateOf start h state → has_end h ≡ true
    → (r : Result Worked NoMemory) → IfOk r (λ x. x.world.cluster ≡ cluster_of state.script) → IfOk r (λ x. x.world.past ≡ state.past)
    → IfOk r (λ x. state.halt ≡ halt_at_limit x.halted) → IfOk r (λ x. IsWorked start.script x.world x.halted)
worked-of start state h script new stands found (Ok x) cluster past halted = is-worked start state h script new stands found x.world cluster past x.halted halted
worked-of start state h script new stands found (Err e) cluster past halted = tt

pub closable-of : (start state : ClusterState) (h : Calls) → IsScript start.script → IsNew (as_opening start) → IsStateOf start h state → has_end h ≡ true
    → start.verdicts ≡ [] → (cs : List Collected) → AllByRecursion (StandsIfUp (cluster_of start.script) (world (as_opening start) h)) cs
    → (r : Result Worked NoMemory) → IfOk r (λ x. x.world.cluster ≡ cluster_of state.script) → IfOk r (λ x. x.world.past ≡ state.past)
    → IfOk r (λ x. reverse x.verdicts.items ≡ state.verdicts) → IfOk r (λ x. x.back.items ≡ cs) → IfOk r CanBeClosed
closable-of start state h script new stands found none cs back (Ok x) cluster past listed kept = record {
  within = within-left start state h script new stands found x.world cluster past none cs back;
  verdicts = verdicts-left start state h script new stands found x.world cluster past none cs back x.verdicts.items listed;
  back = subst (AllByRecursion (StandsIfUp x.world.cluster x.world.past)) (sym kept) (back-left start state h script new stands found x.world cluster past none cs back);
}
closable-of start state h script new stands found none cs back (Err e) cluster past listed kept = tt
