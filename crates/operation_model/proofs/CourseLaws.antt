-- A course of calls of a new cluster keeps what is kept; so its world is a run of the script, and where it halts at a limit, that
-- run could pass the limit next.
use Rattle.std.proofs.Common.{◌≡◌, ◌==◌, ◌++◌, ℕ, Bool, true, false, List, [], ◌∷◌, option_map, option_to_list, Option, Some, None, refl, sym, ◌∙◌, ap, subst, if◌then◌else◌, inl, inr}
use Rattle.std.proofs.lemmas.Bool.{false≢true}
use Rattle.std.proofs.lemmas.Option.{none-some, same_Some}
use Rattle.crgc_ids.specs.Actor.{Actor}
use Rattle.crgc_ids.specs.declared.Which.{Which}
use Rattle.turn_lock.specs.History.{entry}
use Rattle.history_model.specs.declared.events.Event.{Event}
use Rattle.history_model.specs.declared.events.Event.TheVariants as events
use Rattle.history_model.specs.Cluster.{Cluster}
use Rattle.history_model.specs.Folds.{was_handed}
use Rattle.history_model.specs.Legal.{refusal}
use Rattle.history_model.specs.Rows.{onto}
use Rattle.history_model.proofs.Basics.{eqb-refl}
use Rattle.history_model.specs.Sweeps.{IsVerdict, is_stopped}
use Rattle.history_model.specs.declared.records.Verdict.{Verdict}
use Rattle.journal_model.specs.Verdicts.{AreVerdicts}
use Rattle.behaviour_lang.specs.Bound.{Names}
use Rattle.behaviour_lang.specs.declared.act.Act.{Act}
use Rattle.behaviour_lang.specs.declared.act.Act.TheVariants as acts
use Rattle.script_reader.specs.Valid.{Scripted}
use Rattle.run_model.specs.Doing.{Doing, cluster_of}
use Rattle.run_model.specs.Follows.{CouldPass, IsRun, added, is_allowed, limit_of, limit_with, queued}
use Rattle.run_model.specs.Planned.{crash_due}
use Rattle.run_model.specs.declared.round_laws.TheConstants.{FLUSHES_PER_PUBLISH}
use Rattle.run_model.proofs.Beginnings.{IsStart, beginning-start, start-doing}
use Rattle.run_model.proofs.Runs.{IsSound, run-sound}
use Rattle.run_model.proofs.SeedsLegal.{beginning-legal}
use Rattle.operation_model.specs.declared.operations.Op.{Op}
use Rattle.operation_model.specs.declared.operations.Op.TheVariants as ops
use Rattle.operation_model.specs.declared.replies.Halt.{Halt}
use Rattle.operation_model.specs.declared.replies.Halt.TheVariants.{Limit, Memory}
use Rattle.operation_model.specs.declared.replies.Reply.{Reply}
use Rattle.operation_model.specs.declared.replies.Reply.TheVariants as replies
use Rattle.operation_model.specs.Answers.{act_reply, IsAnswer, IsCourse, IsGranted, IsReply, MayAnswer, MayFollow, PassesLimit, Refusal, Unless, WouldPass, first_refusal, nodes_of, refusals, refused, unknown}
use Rattle.operation_model.specs.Courses.{behaviour_at, claim_at, event_by, events_by, halt_after, halt_at, names_at, with_added, world}
use Rattle.operation_model.specs.Deeds.{deed_of, nothing}
use Rattle.operation_model.specs.Fits.{Fits}
use Rattle.operation_model.specs.Kept.{Hands, IsKept, IsKeptIn, KeepsTurns, KeepsHands, hands_of, names_of, open_turns}
use Rattle.operation_model.specs.Openings.{IsNew, Opening}
use Rattle.operation_model.specs.Turns.{Calls, Open}
use Rattle.operation_model.proofs.Claims.{hands-event, hands-nothing, is_of_collector}
use Rattle.operation_model.proofs.Frames.{is_still, still}
use Rattle.operation_model.proofs.Granted.{granted}
use Rattle.operation_model.proofs.Keeping.{keeps-same, keeps-still}
use Rattle.operation_model.proofs.Verdicts.{verdict-is}
use Rattle.operation_model.proofs.Kept.{IsStep, LeavesHands, LeavesTurns, leaves-hands, leaves-turns, same-hands, same-turns}

-- ---- what does nothing

-- each refusal is an answer that does nothing, and the cluster goes on
abbrev AreQuiet : Op → List Refusal → Type 0
AreQuiet op [] = Unit {0}
AreQuiet op (c ∷ cs) = (deed_of op c.reply ≡ nothing) × (halt_after c.reply None ≡ None) × AreQuiet op cs

pub refusals-quiet : (s : Scripted) (claims : ℕ → Option ℕ) (op : Op) (w : List Event) → AreQuiet op (unknown s.nodes (nodes_of op) ++ refusals s claims op w)
refusals-quiet s claims (ops.Claim n) w = (refl, refl, (refl, refl, tt))
refusals-quiet s claims ops.Wake w = (refl, refl, (refl, refl, tt))
refusals-quiet s claims (ops.Take a) w = (refl, refl, (refl, refl, (refl, refl, (refl, refl, (refl, refl, tt)))))
refusals-quiet s claims (ops.Act a act) w = (refl, refl, (refl, refl, tt))
refusals-quiet s claims (ops.Rest a locals) w = (refl, refl, (refl, refl, tt))
refusals-quiet s claims (ops.Flush a) w = (refl, refl, (refl, refl, (refl, refl, tt)))
refusals-quiet s claims (ops.Publish n) w = (refl, refl, (refl, refl, (refl, refl, tt)))
refusals-quiet s claims (ops.Window d) w = (refl, refl, (refl, refl, (refl, refl, tt)))
refusals-quiet s claims (ops.Remove d) w = (refl, refl, (refl, refl, (refl, refl, tt)))
refusals-quiet s claims (ops.Carry f d) w = (refl, refl, (refl, refl, (refl, refl, tt)))
refusals-quiet s claims (ops.Hand n o k) w = (refl, refl, (refl, refl, (refl, refl, (refl, refl, tt))))
refusals-quiet s claims (ops.Sweep v) w = (refl, refl, (refl, refl, tt))
refusals-quiet s claims ops.GiveUp w = tt
refusals-quiet s claims (ops.Refill skip) w = (refl, refl, tt)
refusals-quiet s claims ops.Finished w = (refl, refl, tt)

first-quiet : (op : Op) (cs : List Refusal) (r : Reply) → AreQuiet op cs → first_refusal cs ≡ Some r → (deed_of op r ≡ nothing) × (halt_after r None ≡ None)
first-quiet op [] r quiet is = absurd (none-some r is)
first-quiet op (c ∷ cs) r quiet is =
    elim c.holds as (λ v. (if v then Some c.reply else first_refusal cs) ≡ Some r → (deed_of op r ≡ nothing) × (halt_after r None ≡ None)) [
      | true ↦ λ one. subst (λ x. (deed_of op x ≡ nothing) × (halt_after x None ≡ None)) (same_Some c.reply r one) (quiet.0, quiet.1)
      | false ↦ λ later. first-quiet op cs r quiet.2 later
    ] is

pub refused-quiet : (s : Scripted) (claims : ℕ → Option ℕ) (op : Op) (w : List Event) (r : Reply) → refused s claims op w ≡ Some r → (deed_of op r ≡ nothing) × (halt_after r None ≡ None)
refused-quiet s claims op w r is = first-quiet op (unknown s.nodes (nodes_of op) ++ refusals s claims op w) r (refusals-quiet s claims op w) is

pub halted-quiet : (op : Op) (why : Halt) → deed_of op (replies.Halted why) ≡ nothing
halted-quiet (ops.Claim n) why = refl
halted-quiet ops.Wake why = refl
halted-quiet (ops.Take a) why = refl
halted-quiet (ops.Act a act) why = refl
halted-quiet (ops.Rest a locals) why = refl
halted-quiet (ops.Flush a) why = refl
halted-quiet (ops.Publish n) why = refl
halted-quiet (ops.Window d) why = refl
halted-quiet (ops.Remove d) why = refl
halted-quiet (ops.Carry f d) why = refl
halted-quiet (ops.Hand n o k) why = refl
halted-quiet (ops.Sweep v) why = refl
halted-quiet ops.GiveUp why = refl
halted-quiet (ops.Refill skip) why = refl
halted-quiet ops.Finished why = refl

-- what does nothing leaves the world as it is
pub world-nothing : (o : Opening) (h : Calls) (p : ℕ) (op : Op) (r : Reply) → deed_of op r ≡ nothing → world o (entry p op r ∷ h) ≡ world o h
world-nothing o h p op r is = ap (λ d. onto (world o h) (events_by o.script d (world o h))) is

kept-nothing : (o : Opening) (h : Calls) (p : ℕ) (op : Op) (r : Reply) → deed_of op r ≡ nothing → IsKept o h → IsKept o (entry p op r ∷ h)
kept-nothing o h p op r is k =
    let turns : LeavesTurns (deed_of op r) = subst LeavesTurns (sym is) (leaves-turns nothing refl) in
    let hands : LeavesHands (deed_of op r) = subst LeavesHands (sym is) (leaves-hands nothing refl) in
    subst (λ w. IsKeptIn o.script w (open_turns (entry p op r ∷ h)) (names_at o (entry p op r ∷ h)) (behaviour_at o (entry p op r ∷ h)) (claim_at o (entry p op r ∷ h)) (hands_of (entry p op r ∷ h)))
    (sym (world-nothing o h p op r is))
    (record {
      run = k.run;
      none_due = k.none_due;
      keeps = keeps-same o.script (world o h) (open_turns h) (open_turns (entry p op r ∷ h)) (names_at o h) (names_at o (entry p op r ∷ h)) (behaviour_at o h) (behaviour_at o (entry p op r ∷ h)) k.keeps
          (same-turns p op r h turns) (λ a. turns.names a (names_at o h a)) (λ a. turns.behaviours a (behaviour_at o h a));
      hands = same-hands p op r h o (world o h) hands k.hands;
    })

-- ---- what is done

-- a run goes on with what is allowed
pub run-more : (s : Scripted) (e : Event) (w : List Event) → IsRun s w → is_allowed s e w ≡ true → IsRun s (e ∷ w)
run-more s e w run allowed = (e ∷ run.0, ap (λ x. e ∷ x) run.1, rw (subst (λ x. is_allowed s e x ≡ true) run.1 allowed, run.2) refl)

-- a crash that is due is allowed
crash-allowed : (s : Scripted) (n : ℕ) (w : List Event) → crash_due s w ≡ Some n → refusal (cluster_of s) (events.Crash n) w ≡ None → is_allowed s (events.Crash n) w ≡ true
crash-allowed s n w due legal = rw (due, eqb-refl n, legal) refl

publish-allowed : (s : Scripted) (n : ℕ) (w : List Event) → crash_due s w ≡ None → refusal (cluster_of s) (events.Publish n) w ≡ None → is_allowed s (events.Publish n) w ≡ true
publish-allowed s n w none legal = rw (none, legal) refl

module _ (s : Scripted) (turns : ℕ → Option Open) (names : Actor → Names) (behaviours : Actor → ℕ) (claims : ℕ → Option ℕ) (x : Hands) where
  abbrev At : List Event → Type 0
  At w = IsKeptIn s w turns names behaviours claims x

  -- a crash or a publish that is added
  added-still : (e : Event) (w : List Event) → is_allowed s e w ≡ true → is_still e ≡ true → is_of_collector e ≡ false → crash_due s (e ∷ w) ≡ None → IsRun s w → KeepsTurns s w turns names behaviours → KeepsHands (cluster_of s) w claims x → At (e ∷ w)
  added-still e w allowed is none none_due run keeps hands = record {
    run = run-more s e w run allowed;
    none_due = none_due;
    keeps = keeps-still s w turns turns names names behaviours behaviours keeps e (still s e w is) (λ q. refl) (λ a. refl) (λ a. refl);
    hands = hands-event (cluster_of s) w claims claims x x hands e (hands-nothing (cluster_of s) e w none);
  }

  rest-added : (a : Actor) (w : List Event) (v : Option ℕ) → crash_due s (events.Rest a ∷ w) ≡ v → IsRun s (events.Rest a ∷ w) → KeepsTurns s (events.Rest a ∷ w) turns names behaviours → KeepsHands (cluster_of s) (events.Rest a ∷ w) claims x
      → MayFollow s (option_to_list (option_map events.Crash v)) (events.Rest a ∷ w) → At (onto (events.Rest a ∷ w) (option_to_list (option_map events.Crash v)))
  rest-added a w None due run keeps hands follow = record { run = run; none_due = due; keeps = keeps; hands = hands }
  rest-added a w (Some n) due run keeps hands follow =
      added-still (events.Crash n) (events.Rest a ∷ w) (crash-allowed s n (events.Rest a ∷ w) due follow.0) refl refl refl run keeps hands

  flush-added : (a : Actor) (w : List Event) (v : Bool) → IsRun s (events.Flush a ∷ w) → KeepsTurns s (events.Flush a ∷ w) turns names behaviours → KeepsHands (cluster_of s) (events.Flush a ∷ w) claims x
      → MayFollow s (option_to_list (if v then Some (events.Publish a.node) else None)) (events.Flush a ∷ w) → At (onto (events.Flush a ∷ w) (option_to_list (if v then Some (events.Publish a.node) else None)))
  flush-added a w false run keeps hands follow = record { run = run; none_due = refl; keeps = keeps; hands = hands }
  flush-added a w true run keeps hands follow =
      added-still (events.Publish a.node) (events.Flush a ∷ w) (publish-allowed s a.node (events.Flush a ∷ w) refl follow.0) refl refl refl run keeps hands

  -- after the first event comes what is added to it
  with-second : (e : Event) (w : List Event) → IsRun s (e ∷ w) → KeepsTurns s (e ∷ w) turns names behaviours → KeepsHands (cluster_of s) (e ∷ w) claims x → MayFollow s (option_to_list (added s e w)) (e ∷ w) → At (onto (e ∷ w) (option_to_list (added s e w)))
  with-second (events.Rest a) w run keeps hands follow = rest-added a w (crash_due s (events.Rest a ∷ w)) refl run keeps hands follow
  with-second (events.Flush a) w run keeps hands follow = flush-added a w (queued a.node (events.Flush a ∷ w) == FLUSHES_PER_PUBLISH) run keeps hands follow
  with-second e w run keeps hands follow = record { run = run; none_due = refl; keeps = keeps; hands = hands }

kept-step : (o : Opening) (h later : Calls) (v : Option Event) → IsKept o h → IsStep o later (world o h) v → MayFollow o.script (with_added o.script v (world o h)) (world o h)
    → IsKeptIn o.script (onto (world o h) (with_added o.script v (world o h))) (open_turns later) (names_at o later) (behaviour_at o later) (claim_at o later) (hands_of later)
kept-step o h later None k step follow = record { run = k.run; none_due = k.none_due; keeps = step.0; hands = step.1 }
kept-step o h later (Some e) k step follow =
    let shown = step follow.0 in
    with-second o.script (open_turns later) (names_at o later) (behaviour_at o later) (claim_at o later) (hands_of later)
    e (world o h) (run-more o.script e (world o h) k.run shown.0.0) shown.1 shown.2 follow.2

-- ---- a new cluster

start-none_due : (s : Scripted) (h : List Event) → IsStart h → crash_due s h ≡ None
start-none_due s [] start = refl
start-none_due s (events.Seed n ∷ p) start = refl
start-none_due s (events.Tie a b ∷ p) start = refl
start-none_due s (e ∷ p) start = absurd start

start-not_handed : (n o k : ℕ) (h : List Event) → IsStart h → was_handed n o k h ≡ false
start-not_handed n o k [] start = refl
start-not_handed n o k (events.Seed m ∷ p) start = start-not_handed n o k p start
start-not_handed n o k (events.Tie a b ∷ p) start = start-not_handed n o k p start
start-not_handed n o k (e ∷ p) start = absurd start

start-not_stopped : (cl : Cluster) (a : Actor) (h : List Event) → IsStart h → is_stopped cl a h ≡ false
start-not_stopped cl a [] start = refl
start-not_stopped cl a (events.Seed m ∷ p) start = start-not_stopped cl a p start
start-not_stopped cl a (events.Tie b c ∷ p) start = start-not_stopped cl a p start
start-not_stopped cl a (e ∷ p) start = absurd start

start-verdicts : (cl : Cluster) (h : List Event) → IsStart h → AreVerdicts cl h []
start-verdicts cl [] start = tt
start-verdicts cl (events.Seed m ∷ p) start = start-verdicts cl p start
start-verdicts cl (events.Tie b c ∷ p) start = start-verdicts cl p start
start-verdicts cl (e ∷ p) start = absurd start

module _ (o : Opening) (new : IsNew o) where
  abbrev S : Scripted
  S = o.script

  starts : IsStart o.past
  starts = subst IsStart (sym new.past) (beginning-start S)

  pub kept-start : IsKept o []
  kept-start = record {
    run = ([], new.past, refl);
    none_due = start-none_due S o.past starts;
    keeps = record {
      running = λ p t is. absurd (none-some t is);
      apart = λ p q t u is is_other one. absurd (none-some t is);
      names_are = λ a born idle. new.names a born ∙ ap names_of (sym (start-doing S a o.past starts));
      behaviours_are = λ a born. new.behaviours a born ∙ ap (λ (d : Doing). d.behaviour) (sym (start-doing S a o.past starts));
    };
    hands = record {
      claimed_by = λ p n is. absurd (false≢true is);
      handed_by = λ n x k was. absurd (false≢true (sym (start-not_handed n x k o.past starts) ∙ was));
      given_is = λ p n x k bytes is. absurd (none-some bytes is);
      since = λ p n is given. absurd (false≢true is);
      stops_are = λ p a is. absurd (false≢true is);
      none_stopped = λ a none. start-not_stopped (cluster_of S) a o.past starts;
      stops_own = λ p a is. absurd (false≢true is);
      verdicts_are = start-verdicts (cluster_of S) o.past starts;
    };
  }

  -- what is kept is sound
  pub kept-sound : (h : Calls) → IsKept o h → IsSound S (world o h)
  kept-sound h k = run-sound S (world o h) (beginning-legal S new.ranges) k.run

  module _ (h : Calls) (k : IsKept o h) (p : ℕ) (op : Op) (fit : Fits o h op p) where
    -- an answer is a refusal, which does nothing, or is granted
    pub by_answer : (r : Reply) (G : Type 0) → (deed_of op r ≡ nothing → halt_after r None ≡ None → G)
        → (refused S (claim_at o h) op (world o h) ≡ None → IsGranted o h op (world o h) r → IsStep o (entry p op r ∷ h) (world o h) (event_by S (deed_of op r) (world o h)) → G)
        → (v : Option Reply) → refused S (claim_at o h) op (world o h) ≡ v → Unless v r (IsGranted o h op (world o h) r) → G
    by_answer r G quiet done (Some x) is answer =
        let refused_so = refused-quiet S (claim_at o h) op (world o h) x is in
        quiet (ap (deed_of op) answer ∙ refused_so.0) (ap (λ y. halt_after y None) answer ∙ refused_so.1)
    by_answer r G quiet done None is answer = done is answer (granted o h k (kept-sound h k) p op r fit is answer)

    kept-made : (r : Reply) → IsAnswer o h op r → MayFollow S (events_by S (deed_of op r) (world o h)) (world o h) → IsKept o (entry p op r ∷ h)
    kept-made r answer follow =
        by_answer r (IsKept o (entry p op r ∷ h))
        (λ quiet _. kept-nothing o h p op r quiet k)
        (λ _ _ step. kept-step o h (entry p op r ∷ h) (event_by S (deed_of op r) (world o h)) k step follow)
        (refused S (claim_at o h) op (world o h)) refl answer

    kept-halted : (r : Reply) (why : Halt) → r ≡ replies.Halted why → IsKept o (entry p op r ∷ h)
    kept-halted r why is = kept-nothing o h p op r (ap (deed_of op) is ∙ halted-quiet op why) k

    kept-answered : (r : Reply) → MayAnswer o h op r → IsKept o (entry p op r ∷ h)
    kept-answered r (inl made) = kept-made r made.0 made.1
    kept-answered r (inr (inl limit)) = kept-halted r (Limit limit.0) limit.1
    kept-answered r (inr (inr memory)) = kept-halted r Memory memory

    kept-reply : (r : Reply) (v : Option Halt) → IsReply o h v op r → IsKept o (entry p op r ∷ h)
    kept-reply r (Some why) is = kept-halted r why is
    kept-reply r None answer = kept-answered r answer

    -- the events of an answer would pass a limit: the run could pass it next
    passes : (e : Event) (limit : Which) → PassesLimit S limit (with_added S (Some e) (world o h)) (world o h) → limit_with S e (world o h) ≡ Some limit
    passes e limit would =
        elim would.1 [
          | inl first ↦ rw first refl
          | inr later ↦ rw (later.0) (second (added S e (world o h)) later.1)
        ]
      where
        second : (x : Option Event) → PassesLimit S limit (option_to_list x) (e ∷ world o h) → limit_of S x (e ∷ world o h) ≡ Some limit
        second None none = absurd none
        second (Some f) would = elim would.1 [ inl is ↦ is | inr none ↦ absurd none.1 ]

    could : (r : Reply) (limit : Which) (v : Option Event) → IsStep o (entry p op r ∷ h) (world o h) v → PassesLimit S limit (with_added S v (world o h)) (world o h) → CouldPass S (world o h) limit
    could r limit None step would = absurd would
    could r limit (Some e) step would =
        let shown = step would.0 in
        (e, inl (run-more S e (world o h) k.run shown.0.0, shown.0.1, passes e limit would))

    could-pass : (limit : Which) → WouldPass o h op limit → CouldPass S (world o h) limit
    could-pass limit would =
        by_answer would.0 (CouldPass S (world o h) limit)
        (λ quiet _. absurd (subst (λ d. PassesLimit S limit (events_by S d (world o h)) (world o h)) quiet would.2))
        (λ _ _ step. could would.0 limit (event_by S (deed_of op would.0) (world o h)) step would.2)
        (refused S (claim_at o h) op (world o h)) refl would.1

  -- at each call of a course this is kept
  pub kept-course : (h : Calls) → IsCourse o h → IsKept o h
  kept-course [] course = kept-start
  kept-course (e ∷ h) course = kept-reply h (kept-course h course.2) e.pass e.op course.0 e.reply (halt_at o h) course.1

  -- whatever is granted does not halt the cluster
  goes_on : (h : Calls) (op : Op) (w : List Event) (r : Reply) → IsGranted o h op w r → halt_after r None ≡ None
  goes_on h (ops.Claim n) w r done = subst (λ x. halt_after x None ≡ None) (sym done) refl
  goes_on h ops.Wake w r done = subst (λ x. halt_after x None ≡ None) (sym done.1) refl
  goes_on h (ops.Take a) w r done = subst (λ x. halt_after x None ≡ None) (sym done.1) refl
  goes_on h (ops.Act a act) w r done = subst (λ x. halt_after x None ≡ None) (sym done) (act-goes_on act)
    where
      act-goes_on : (act : Act) → halt_after (act_reply a act w) None ≡ None
      act-goes_on (acts.Spawn b) = refl
      act-goes_on (acts.Send t refs) = refl
      act-goes_on (acts.Drop t) = refl
      act-goes_on acts.Retire = refl
  goes_on h (ops.Rest a locals) w r done = subst (λ x. halt_after x None ≡ None) (sym done) refl
  goes_on h (ops.Flush a) w r done = subst (λ x. halt_after x None ≡ None) (sym done) refl
  goes_on h (ops.Publish n) w r done = subst (λ x. halt_after x None ≡ None) (sym done) refl
  goes_on h (ops.Window d) w r done = subst (λ x. halt_after x None ≡ None) (sym done) refl
  goes_on h (ops.Remove d) w r done = subst (λ x. halt_after x None ≡ None) (sym done) refl
  goes_on h (ops.Carry f d) w r done = subst (λ x. halt_after x None ≡ None) (sym done) refl
  goes_on h (ops.Hand n x k) w r done = subst (λ x. halt_after x None ≡ None) (sym done.2) refl
  goes_on h (ops.Sweep v) w r done = subst (λ x. halt_after x None ≡ None) (sym done) refl
  goes_on h ops.GiveUp w r done = absurd done
  goes_on h (ops.Refill skip) w r done = subst (λ x. halt_after x None ≡ None) (sym done) refl
  goes_on h ops.Finished w r done = subst (λ x. halt_after x None ≡ None) (sym done) refl

  -- where a course has halted at a limit, the run could pass it next
  pub limit-course : (h : Calls) → IsCourse o h → (limit : Which) → halt_at o h ≡ Some (Limit limit) → CouldPass S (world o h) limit
  limit-course [] course limit halted = absurd (none-some (Limit limit) (sym new.halt ∙ halted))
  limit-course (e ∷ h) course limit halted = by_halt (limit-course h course.2 limit) (halt_at o h) refl course.1
    where
      k : IsKept o h
      k = kept-course h course.2

      -- nothing is done any more
      stays : deed_of e.op e.reply ≡ nothing → CouldPass S (world o h) limit → CouldPass S (world o (e ∷ h)) limit
      stays quiet could_pass = subst (λ w. CouldPass S w limit) (sym (world-nothing o h e.pass e.op e.reply quiet)) could_pass

      halted-nothing : (why : Halt) → e.reply ≡ replies.Halted why → deed_of e.op e.reply ≡ nothing
      halted-nothing why is = ap (deed_of e.op) is ∙ halted-quiet e.op why

      -- why it has halted
      why-is : (v : Option Halt) (why : Halt) → halt_at o h ≡ v → e.reply ≡ replies.Halted why → why ≡ Limit limit
      why-is v why is reply = same_Some why (Limit limit) (sym (ap (λ r. halt_after r (halt_at o h)) reply) ∙ halted)

      answered : halt_at o h ≡ None → MayAnswer o h e.op e.reply → CouldPass S (world o (e ∷ h)) limit
      answered none (inl made) =
          by_answer h k e.pass e.op course.0 e.reply (CouldPass S (world o (e ∷ h)) limit)
          (λ _ on. absurd (none-some (Limit limit) (sym on ∙ ap (halt_after e.reply) (sym none) ∙ halted)))
          (λ _ done _. absurd (none-some (Limit limit) (sym (goes_on h e.op (world o h) e.reply done) ∙ ap (halt_after e.reply) (sym none) ∙ halted)))
          (refused S (claim_at o h) e.op (world o h)) refl made.0
      answered none (inr (inl at)) =
          let same : at.0 ≡ limit = limit-same at.0 (why-is None (Limit at.0) none at.1) in
          stays (halted-nothing (Limit at.0) at.1) (could-pass h k e.pass e.op course.0 limit (subst (WouldPass o h e.op) same at.2))
        where
          limit-same : (x : Which) → Limit x ≡ Limit limit → x ≡ limit
          limit-same x is = cc
      answered none (inr (inr memory)) = absurd (memory-no_limit (why-is None Memory none memory))
        where
          memory-no_limit : Memory ≡ Limit limit → ⊥
          memory-no_limit is = cc

      by_halt : (halt_at o h ≡ Some (Limit limit) → CouldPass S (world o h) limit) → (v : Option Halt) → halt_at o h ≡ v → IsReply o h v e.op e.reply → CouldPass S (world o (e ∷ h)) limit
      by_halt earlier (Some why) is reply = stays (halted-nothing why reply) (earlier (is ∙ ap Some (why-is (Some why) why is reply)))
      by_halt earlier None is reply = answered is reply

-- the verdict that fits is the verdict of the sweep
pub fitting-verdict : (o : Opening) (h : Calls) (v : Verdict) (p : ℕ) → IsCourse o h → Fits o h (ops.Sweep v) p → IsVerdict (cluster_of o.script) v.node (world o h) v
fitting-verdict o h v p course fit =
    let k = kept-course o fit.0 h course in
    verdict-is (cluster_of o.script) (world o h) (claim_at o h) h k.hands (kept-sound o fit.0 h k).0 p v fit.1 fit.3
