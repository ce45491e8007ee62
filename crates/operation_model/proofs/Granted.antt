-- Whatever is granted in a run of a new cluster keeps what is kept, and its first event is allowed.
use Rattle.std.proofs.Common.{◌≡◌, ◌&&◌, ◌++◌, ℕ, true, false, nat_lt, List, [], ◌∷◌, option_map, slice_get, Option, Some, None, refl, sym, ◌∙◌, ap, subst, if◌then◌else◌}
use Rattle.std.proofs.lemmas.Bool.{and_parts, false_from_ne_true}
use Rattle.std.proofs.lemmas.Option.{none-some, same_Some}
use Rattle.crgc_ids.specs.Actor.{Actor}
use Rattle.turn_lock.specs.History.{calls_of, entry}
use Rattle.history_model.specs.declared.events.Event.{Event}
use Rattle.history_model.specs.declared.events.Event.TheVariants as events
use Rattle.history_model.specs.declared.records.Verdict.{Verdict}
use Rattle.history_model.specs.Folds.{was_handed}
use Rattle.history_model.specs.Legal.{refusal}
use Rattle.history_model.specs.State.{is_up}
use Rattle.history_model.specs.Streams.{Notice, stream}
use Rattle.history_model.proofs.Basics.{eqb-refl, same_actor-refl}
use Rattle.behaviour_lang.specs.declared.act.Act.{Act}
use Rattle.behaviour_lang.specs.declared.act.Act.TheVariants as acts
use Rattle.script_reader.specs.Valid.{Scripted}
use Rattle.run_model.specs.Doing.{cluster_of, event_of}
use Rattle.run_model.specs.Follows.{begins_operation, fits, is_allowed, is_on_time}
use Rattle.run_model.specs.Planned.{actors, crash_due, is_possible, is_within_budget, next_on_link, next_wake, wakes_left}
use Rattle.run_model.proofs.Runs.{IsSound, due-allowed}
use Rattle.operation_model.specs.declared.operations.Op.{Op}
use Rattle.operation_model.specs.declared.operations.Op.TheVariants as ops
use Rattle.operation_model.specs.declared.replies.Reply.{Reply}
use Rattle.operation_model.specs.declared.replies.Reply.TheVariants as replies
use Rattle.operation_model.specs.Answers.{IsGranted, Refusal, act_reply, first_refusal, refusals, refused, unknown}
use Rattle.operation_model.specs.Courses.{claim_at, event_by, if_possible, next_removal, next_window, world}
use Rattle.operation_model.specs.Deeds.{Begun, acted, deed_of, turn_reply}
use Rattle.operation_model.specs.Fits.{Fits}
use Rattle.operation_model.specs.Hands.{IsOwnVerdict, Spells, given, given_since, has_claimed}
use Rattle.operation_model.specs.Kept.{IsKept, KeepsHands, hands_of, open_turns}
use Rattle.operation_model.specs.Openings.{Opening}
use Rattle.operation_model.specs.Turns.{Calls, IsNextAct, IsWholeTurn, Open}
use Rattle.operation_model.proofs.Claims.{hands-claimed, hands-handed, hands-nothing, hands-swept, is_of_collector}
use Rattle.operation_model.proofs.Frames.{child_of}
use Rattle.operation_model.proofs.Kept.{Goes, IsStep, LeavesHands, changes-hands, changes_hands, hands-left, leaves-hands, same-hands}
use Rattle.operation_model.proofs.Verdicts.{verdict-is}
use Rattle.operation_model.proofs.GrantedTurns.{IsTurnStep, act-due_now, actor-busy, deed-act, found, granted-turns, if-open, is_none-some, link-event, none-due_now, not-false}

-- ---- tests

-- no refusal is due
abbrev pub NoneHolds : List Refusal → Type 0
NoneHolds [] = Unit {0}
NoneHolds (c ∷ cs) = (c.holds ≡ false) × NoneHolds cs

pub none-holds : (cs : List Refusal) → first_refusal cs ≡ None → NoneHolds cs
none-holds [] e = tt
none-holds (c ∷ cs) e =
    elim c.holds as (λ v. c.holds ≡ v → (if v then Some c.reply else first_refusal cs) ≡ None → NoneHolds (c ∷ cs)) [
      | true ↦ λ _ one. absurd (none-some c.reply (sym one))
      | false ↦ λ fails later. (fails, none-holds cs later)
    ] refl e

-- ---- events

-- an event is allowed where no crash is due, it fits, and no rule refuses it
goes : (s : Scripted) (e : Event) (w : List Event) → is_on_time e None ≡ true → crash_due s w ≡ None → fits s e w ≡ true → begins_operation s e w ≡ true → refusal (cluster_of s) e w ≡ None → Goes s e w
goes s e w time none fit begin legal = (rw (none, time, fit, legal) refl, begin)

-- what the first event of a call must show beside that, where h are the calls with it, and w is the world before
abbrev pub IsRunStep : Opening → Calls → List Event → Option Event → Type 0
IsRunStep o h w None = KeepsHands (cluster_of o.script) w (claim_at o h) (hands_of h)
IsRunStep o h w (Some e) =
    refusal (cluster_of o.script) e w ≡ None → Goes o.script e w × KeepsHands (cluster_of o.script) (e ∷ w) (claim_at o h) (hands_of h)

-- ---- deeds

module _ (o : Opening) (h : Calls) (k : IsKept o h) (sound : IsSound o.script (world o h)) (p : ℕ) where
  abbrev S : Scripted
  S = o.script

  abbrev W : List Event
  W = world o h

  -- what is to be shown of an operation and its answer
  abbrev Shows : Op → Reply → Type 0
  Shows op r = IsRunStep o (entry p op r ∷ h) W (event_by S (deed_of op r) W)

  -- a deed that changes no claim and hands nothing, without an event
  quiet : (op : Op) (r : Reply) → changes_hands (deed_of op r) ≡ false → IsRunStep o (entry p op r ∷ h) W None
  quiet op r hands = same-hands p op r h o W (leaves-hands (deed_of op r) hands) k.hands

  -- and with one
  telling : (op : Op) (r : Reply) (e : Event) → is_of_collector e ≡ false → changes_hands (deed_of op r) ≡ false → (refusal (cluster_of S) e W ≡ None → Goes S e W) → IsRunStep o (entry p op r ∷ h) W (Some e)
  telling op r e none hands allowed = λ legal. (allowed legal, hands-left p op r h o W e (leaves-hands (deed_of op r) hands) (hands-nothing (cluster_of S) e W none) k.hands)

  cuts : (d : ℕ) (v : Option ℕ) → next_window S d W ≡ v → IsRunStep o (entry p (ops.Window d) replies.Done ∷ h) W (option_map (events.Window d) v)
  cuts d None is = quiet (ops.Window d) replies.Done refl
  cuts d (Some f) is = telling (ops.Window d) replies.Done (events.Window d f) refl refl (goes S (events.Window d f) W refl k.none_due refl (rw is (eqb-refl f)))

  removes : (d : ℕ) (v : Option ℕ) → next_removal S d W ≡ v → IsRunStep o (entry p (ops.Remove d) replies.Done ∷ h) W (option_map (events.Remove d) v)
  removes d None is = quiet (ops.Remove d) replies.Done refl
  removes d (Some n) is = telling (ops.Remove d) replies.Done (events.Remove d n) refl refl (goes S (events.Remove d n) W refl k.none_due refl (rw is (eqb-refl n)))

  carries : (f d : ℕ) (v : Option Event) → next_on_link S f d W ≡ v → IsRunStep o (entry p (ops.Carry f d) replies.Done ∷ h) W (if_possible S v W)
  carries f d None is = quiet (ops.Carry f d) replies.Done refl
  carries f d (Some e) is =
      elim (is_possible S e W) as (λ v. IsRunStep o (entry p (ops.Carry f d) replies.Done ∷ h) W (if v then Some e else None)) [
        | false ↦ quiet (ops.Carry f d) replies.Done refl
        | true ↦
            let link = link-event S f d W e is in
            telling (ops.Carry f d) replies.Done e link.none refl (goes S e W link.time k.none_due link.fit link.begin)
      ]

  claims : (n : ℕ) → claim_at o h n ≡ None → Shows (ops.Claim n) replies.Done
  claims n free =
      hands-claimed (cluster_of S) W (claim_at o h) (claim_at o (entry p (ops.Claim n) replies.Done ∷ h)) (hands_of h) (hands_of (entry p (ops.Claim n) replies.Done ∷ h)) k.hands
      p n free (changes-hands p (ops.Claim n) replies.Done h) (λ m. refl)

  hands : (n x j : ℕ) (bytes : List ℕ) (m : Notice) → slice_get (stream (cluster_of S) x W) j ≡ Some m → Spells x bytes m → has_claimed n (calls_of p h) ≡ true → given n x j (calls_of p h) ≡ None → Shows (ops.Hand n x j) (replies.Bytes bytes)
  hands n x j bytes m stands spells claimed new = λ legal. (
    goes S (events.Hand n x j) W refl k.none_due (rw not-handed refl) refl legal,
    hands-handed (cluster_of S) W (claim_at o h) (claim_at o (entry p (ops.Hand n x j) (replies.Bytes bytes) ∷ h)) (hands_of h) (hands_of (entry p (ops.Hand n x j) (replies.Bytes bytes) ∷ h)) k.hands
        p n x j bytes claimed m stands spells (changes-hands p (ops.Hand n x j) (replies.Bytes bytes) h) (λ r. refl),
  )
    where
      -- what was handed was given to the pass that has claimed the node, which is this one
      not-handed : was_handed n x j W ≡ false
      not-handed = false_from_ne_true (was_handed n x j W) (λ was.
          let by = k.hands.handed_by n x j was in
          let one : by.0 ≡ p = same_Some by.0 p (sym by.1 ∙ k.hands.claimed_by p n claimed) in
          none-some by.2.0 (sym new ∙ subst (λ q. given n x j (calls_of q h) ≡ Some by.2.0) one by.2.1))

  sweeps : (v : Verdict) → has_claimed v.node (calls_of p h) ≡ true → given_since v.node (calls_of p h) ≡ true → IsOwnVerdict (cluster_of S) (calls_of p h) v → Shows (ops.Sweep v) replies.Done
  sweeps v claimed since own = λ legal. (
    goes S (events.Sweep v.node) W refl k.none_due (k.hands.since p v.node claimed since) refl legal,
    hands-swept (cluster_of S) W (claim_at o h) (claim_at o (entry p (ops.Sweep v) replies.Done ∷ h)) (hands_of h) (hands_of (entry p (ops.Sweep v) replies.Done ∷ h)) k.hands
        p v claimed (verdict-is (cluster_of S) W (claim_at o h) h k.hands sound.0 p v claimed own) (changes-hands p (ops.Sweep v) replies.Done h) (λ m. refl),
  )

  wakes : (b : Begun) → is_within_budget S W ≡ true → next_wake S W ≡ Some b.actor → Shows ops.Wake (turn_reply b)
  wakes b within next =
      let passes = found (λ a. nat_lt 0 (wakes_left S a W) && is_possible S (events.Wake a) W) (actors S W) b.actor next in
      let left_over = (and_parts (nat_lt 0 (wakes_left S b.actor W)) (is_possible S (events.Wake b.actor) W) passes).0 in
      telling ops.Wake (turn_reply b) (events.Wake b.actor) refl refl (goes S (events.Wake b.actor) W refl k.none_due (rw (within, left_over) refl) (rw next (same_actor-refl b.actor)))

  act-none : (a : Actor) (act : Act) → is_of_collector (event_of a (Some act)) ≡ false
  act-none a (acts.Spawn b) = refl
  act-none a (acts.Send t refs) = refl
  act-none a (acts.Drop t) = refl
  act-none a acts.Retire = refl

  act-begins : (a : Actor) (act : Act) → begins_operation S (event_of a (Some act)) W ≡ true
  act-begins a (acts.Spawn b) = refl
  act-begins a (acts.Send t refs) = refl
  act-begins a (acts.Drop t) = refl
  act-begins a acts.Retire = refl

  does : (a : Actor) (act : Act) (t : Open) → is_up a.node W ≡ true → open_turns h p ≡ Some t → IsNextAct S.code a act t → Shows (ops.Act a act) (act_reply a act W)
  does a act t up is_open next =
      let op = ops.Act a act in
      let r = act_reply a act W in
      let is = deed-act a act W in
      let due_now = act-due_now o h k.keeps sound p a act t is_open next in
      let busy = actor-busy o h k.keeps sound p a t is_open next.0 in
      subst (IsRunStep o (entry p op r ∷ h) W) (sym (ap (λ x. event_by S x W) is))
      (λ legal. (
        (subst (λ e. is_allowed S e W ≡ true) (ap (event_of a) due_now) (due-allowed S a W sound busy up k.none_due), act-begins a act),
        hands-left p op r h o W (event_of a (Some act)) (subst LeavesHands (sym is) (leaves-hands (acted a act (child_of a act W)) refl)) (hands-nothing (cluster_of S) (event_of a (Some act)) W (act-none a act)) k.hands,
      ))

  rests : (a : Actor) (locals : List (List ℕ × Actor)) (t : Open) → is_up a.node W ≡ true → open_turns h p ≡ Some t → IsWholeTurn S.code a locals t → Shows (ops.Rest a locals) replies.Done
  rests a locals t up is_open done =
      let none = none-due_now o h k.keeps sound p a locals t is_open done in
      let busy = actor-busy o h k.keeps sound p a t is_open done.0 in
      telling (ops.Rest a locals) replies.Done (events.Rest a) refl refl (λ legal. (subst (λ e. is_allowed S e W ≡ true) (ap (event_of a) none) (due-allowed S a W sound busy up k.none_due), refl))

  granted-runs : (op : Op) (r : Reply) → Fits o h op p → refused S (claim_at o h) op W ≡ None → IsGranted o h op W r → Shows op r
  granted-runs (ops.Claim n) r fit not_refused done =
      let none = none-holds (unknown S.nodes (n ∷ []) ++ refusals S (claim_at o h) (ops.Claim n) W) not_refused in
      subst (Shows (ops.Claim n)) (sym done) (claims n (is_none-some (claim_at o h n) none.1.0))
  granted-runs ops.Wake r fit not_refused done =
      let none = none-holds (refusals S (claim_at o h) ops.Wake W) not_refused in
      subst (Shows ops.Wake) (sym done.1) (wakes done.0 (not-false (is_within_budget S W) none.0) done.2)
  granted-runs (ops.Take a) r fit not_refused done =
      let none = none-holds (unknown S.nodes (a.node ∷ []) ++ refusals S (claim_at o h) (ops.Take a) W) not_refused in
      let b = done.0 in
      subst (λ x. Shows (ops.Take x) r) done.2
      (subst (Shows (ops.Take b.actor)) (sym done.1) (telling (ops.Take b.actor) (turn_reply b) (events.Take b.actor) refl refl (goes S (events.Take b.actor) W refl k.none_due (not-false (is_within_budget S W) none.1.1.0) refl)))
  granted-runs (ops.Act a act) r fit not_refused done =
      let none = none-holds (unknown S.nodes (a.node ∷ []) ++ refusals S (claim_at o h) (ops.Act a act) W) not_refused in
      let turn = if-open (IsNextAct S.code a act) (open_turns h p) fit in
      subst (Shows (ops.Act a act)) (sym done) (does a act turn.0 (not-false (is_up a.node W) none.1.0) turn.1 turn.2)
  granted-runs (ops.Rest a locals) r fit not_refused done =
      let none = none-holds (unknown S.nodes (a.node ∷ []) ++ refusals S (claim_at o h) (ops.Rest a locals) W) not_refused in
      let turn = if-open (IsWholeTurn S.code a locals) (open_turns h p) fit in
      subst (Shows (ops.Rest a locals)) (sym done) (rests a locals turn.0 (not-false (is_up a.node W) none.1.0) turn.1 turn.2)
  granted-runs (ops.Flush a) r fit not_refused done = subst (Shows (ops.Flush a)) (sym done) (telling (ops.Flush a) replies.Done (events.Flush a) refl refl (goes S (events.Flush a) W refl k.none_due refl refl))
  granted-runs (ops.Publish n) r fit not_refused done = subst (Shows (ops.Publish n)) (sym done) (telling (ops.Publish n) replies.Done (events.Publish n) refl refl (goes S (events.Publish n) W refl k.none_due refl refl))
  granted-runs (ops.Window d) r fit not_refused done = subst (Shows (ops.Window d)) (sym done) (cuts d (next_window S d W) refl)
  granted-runs (ops.Remove d) r fit not_refused done = subst (Shows (ops.Remove d)) (sym done) (removes d (next_removal S d W) refl)
  granted-runs (ops.Carry f d) r fit not_refused done = subst (Shows (ops.Carry f d)) (sym done) (carries f d (next_on_link S f d W) refl)
  granted-runs (ops.Hand n x j) r fit not_refused done = subst (Shows (ops.Hand n x j)) (sym done.2) (hands n x j done.0 done.1 done.3 done.4 fit.0 fit.1)
  granted-runs (ops.Sweep v) r fit not_refused done = subst (Shows (ops.Sweep v)) (sym done) (sweeps v fit.1 fit.2 fit.3)
  granted-runs ops.GiveUp r fit not_refused done = absurd done
  granted-runs (ops.Refill skip) r fit not_refused done = quiet (ops.Refill skip) r refl
  granted-runs ops.Finished r fit not_refused done = subst (Shows ops.Finished) (sym done) (quiet ops.Finished replies.AllDone refl)

  -- both together
  both : (later : Calls) (v : Option Event) → IsTurnStep o later W v → IsRunStep o later W v → IsStep o later W v
  both later None turns run = (turns, run)
  both later (Some e) turns run = λ legal. ((run legal).0, (turns legal).1, (run legal).1)

  -- whatever is granted
  pub granted : (op : Op) (r : Reply) → Fits o h op p → refused S (claim_at o h) op W ≡ None → IsGranted o h op W r → IsStep o (entry p op r ∷ h) W (event_by S (deed_of op r) W)
  granted op r fit not_refused done =
      both (entry p op r ∷ h) (event_by S (deed_of op r) W) (granted-turns o h k.keeps sound p op r fit done) (granted-runs op r fit not_refused done)
