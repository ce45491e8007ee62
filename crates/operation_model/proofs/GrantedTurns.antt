-- What is granted keeps open turns, names and behaviours, whatever the lock was made with, if only its names said no more than is
-- held: so the acts that fit are legal.
use Rattle.std.proofs.Common.{◌≡◌, ◌==◌, ◌&&◌, ◌++◌, ℕ, Bool, true, false, not, List, [], ◌∷◌, option_map, Option, Some, None, refl, sym, ◌∙◌, ap, subst, if◌then◌else◌}
use Rattle.std.specs.List.{find}
use Rattle.std.specs.Option.{is_some}
use Rattle.std.proofs.lemmas.Bool.{false≢true}
use Rattle.std.proofs.lemmas.Option.{none-some, same_Some}
use Rattle.crgc_ids.specs.Actor.{Actor}
use Rattle.turn_lock.specs.History.{entry}
use Rattle.history_model.specs.declared.events.Event.{Event}
use Rattle.history_model.specs.declared.events.Event.TheVariants as events
use Rattle.history_model.specs.Cluster.{is_born}
use Rattle.history_model.specs.Legal.{checks, refusal}
use Rattle.history_model.specs.Messages.{waiting}
use Rattle.history_model.specs.State.{is_busy, is_root}
use Rattle.history_model.proofs.Basics.{eqb-refl, first_broken-none}
use Rattle.behaviour_lang.specs.Bound.{Names, local_names, numbered}
use Rattle.behaviour_lang.specs.Steps.{due_act, left}
use Rattle.behaviour_lang.specs.TurnState.{instrs_of}
use Rattle.behaviour_lang.specs.declared.act.Act.{Act}
use Rattle.behaviour_lang.specs.declared.act.Act.TheVariants as acts
use Rattle.behaviour_lang.specs.declared.act.List.{List as Lists}
use Rattle.behaviour_lang.specs.declared.act.List.TheVariants as lists
use Rattle.script_reader.specs.Valid.{Scripted}
use Rattle.run_model.specs.Doing.{Doing, begins, cluster_of, doing, event_of, first_refs}
use Rattle.run_model.specs.Follows.{begins_operation, fits, is_on_time}
use Rattle.run_model.specs.Planned.{carry, is_possible, lowest_copy, next_on_link}
use Rattle.run_model.proofs.ActsLegal.{busy-born}
use Rattle.run_model.proofs.Runs.{IsSound}
use Rattle.operation_model.specs.declared.operations.Op.{Op}
use Rattle.operation_model.specs.declared.operations.Op.TheVariants as ops
use Rattle.operation_model.specs.declared.replies.Reply.{Reply}
use Rattle.operation_model.specs.declared.replies.Reply.TheVariants as replies
use Rattle.operation_model.specs.Answers.{IsBegun, IsGranted, act_reply}
use Rattle.operation_model.specs.Courses.{behaviour_after, behaviour_at, event_by, if_possible, names_after, names_at, next_removal, next_window, world}
use Rattle.operation_model.specs.Deeds.{Begun, acted, deed_of, turn_reply}
use Rattle.operation_model.specs.Fits.{Fits}
use Rattle.operation_model.specs.Kept.{IsReached, KeepsTurns, names_of, open_turns, turn_actor}
use Rattle.operation_model.specs.Openings.{Opening}
use Rattle.operation_model.specs.Turns.{Calls, IfOpen, IsNextAct, IsWholeTurn, Open, fresh, grown, turn_after, turn_left, with_act}
use Rattle.operation_model.proofs.Claims.{is_of_collector}
use Rattle.operation_model.proofs.Frames.{IsBeginning, child_of, is_still, still, take-begins, wake-begins}
use Rattle.operation_model.proofs.Keeping.{ChangesTurn, keeps-acted, keeps-begun, keeps-rested, keeps-same, keeps-still, turn_actor-busy, turn_actor-reached}
use Rattle.operation_model.proofs.Kept.{changes-turn, changes_turns, leaves-turns, same-turns}
use Rattle.operation_model.proofs.Reached.{act-due, names-left, none-due}
use Rattle.run_model.proofs.HeldNames.{IsDue}

-- ---- tests

pub found : {X : Type 0} (test : X → Bool) (xs : List X) (x : X) → find test xs ≡ Some x → test x ≡ true
found test [] x is = absurd (none-some x is)
found test (y ∷ ys) x is =
    elim (test y) as (λ v. test y ≡ v → (if v then Some y else find test ys) ≡ Some x → test x ≡ true) [
      | true ↦ λ passes one. subst (λ z. test z ≡ true) (same_Some y x one) passes
      | false ↦ λ _ later. found test ys x later
    ] refl is

pub not-false : (v : Bool) → not v ≡ false → v ≡ true
not-false true e = refl
not-false false e = absurd (false≢true (sym e))

pub not-true : (v : Bool) → not v ≡ true → v ≡ false
not-true true e = absurd (false≢true e)
not-true false e = refl

pub is_none-some : {X : Type 0} (v : Option X) → is_some v ≡ false → v ≡ None
is_none-some None e = refl
is_none-some (Some x) e = absurd (false≢true (sym e))

pub if-open : (P : Open → Type 0) (v : Option Open) → IfOpen P v → (t : Open) × (v ≡ Some t) × P t
if-open P None holds = absurd holds
if-open P (Some t) holds = (t, refl, holds)

-- ---- events

-- what the event on a link shows
pub record IsLinkEvent (s : Scripted) (e : Event) (w : List Event) : Type 0 where
  pub is_still_event : is_still e ≡ true
  pub time : is_on_time e None ≡ true
  pub fit : fits s e w ≡ true
  pub none : is_of_collector e ≡ false
  pub begin : begins_operation s e w ≡ true

module _ (s : Scripted) (f d k : ℕ) (w : List Event) where
  itself : ((f == f) && ((d == d) && (k == k))) ≡ true
  itself = rw (eqb-refl f, eqb-refl d, eqb-refl k) refl

  repeated : next_on_link s f d w ≡ Some (events.Repeat f d k) → IsLinkEvent s (events.Repeat f d k) w
  repeated link = record { is_still_event = refl; time = refl; fit = rw link itself; none = refl; begin = refl }

  lost : next_on_link s f d w ≡ Some (events.Lose f d k) → IsLinkEvent s (events.Lose f d k) w
  lost link = record { is_still_event = refl; time = refl; fit = rw link itself; none = refl; begin = refl }

  admitted : next_on_link s f d w ≡ Some (events.Admit f d k) → IsLinkEvent s (events.Admit f d k) w
  admitted link = record { is_still_event = refl; time = refl; fit = rw link itself; none = refl; begin = refl }

  chosen : (r l : Bool) → (let e = if r then events.Repeat f d k else if l then events.Lose f d k else events.Admit f d k in next_on_link s f d w ≡ Some e → IsLinkEvent s e w)
  chosen true l = repeated
  chosen false true = lost
  chosen false false = admitted

pub link-event : (s : Scripted) (f d : ℕ) (w : List Event) (e : Event) → next_on_link s f d w ≡ Some e → IsLinkEvent s e w
link-event s f d w e link =
    elim (lowest_copy f d w) as (λ v. next_on_link s f d w ≡ option_map (λ k. carry s f d k w) v → IsLinkEvent s e w) [
      | None ↦ λ same. absurd (none-some e (sym same ∙ link))
      | Some k ↦ λ same.
          let one : carry s f d k w ≡ e = same_Some (carry s f d k w) e (sym same ∙ link) in
          subst (λ x. IsLinkEvent s x w) one (chosen s f d k w _ _ same)
    ] refl

-- a deed that begins a turn
record IsBeginOf (op : Op) (r : Reply) (b : Begun) : Type 0 where
  opens : (t : Option Open) → turn_after (deed_of op r) t ≡ Some (fresh b)
  names : (a : Actor) (before : Names) → names_after (deed_of op r) a before ≡ before
  behaviours : (a : Actor) (before : ℕ) → behaviour_after (deed_of op r) a before ≡ before

-- the deed of an act, with its child
pub deed-act : (a : Actor) (act : Act) (w : List Event) → deed_of (ops.Act a act) (act_reply a act w) ≡ acted a act (child_of a act w)
deed-act a (acts.Spawn b) w = refl
deed-act a (acts.Send t refs) w = refl
deed-act a (acts.Drop t) w = refl
deed-act a acts.Retire w = refl

-- ---- deeds

-- what the first event of a call does to turns, names and behaviours, where h are the calls with it, and w is the world before;
-- where there is none, what is kept at once
abbrev pub IsTurnStep : Opening → Calls → List Event → Option Event → Type 0
IsTurnStep o h w None = KeepsTurns o.script w (open_turns h) (names_at o h) (behaviour_at o h)
IsTurnStep o h w (Some e) =
    refusal (cluster_of o.script) e w ≡ None → IsDue o.script e w × KeepsTurns o.script (e ∷ w) (open_turns h) (names_at o h) (behaviour_at o h)

-- an event in which nobody acts is no act
still-due : (s : Scripted) (e : Event) (w : List Event) → is_still e ≡ true → IsDue s e w
still-due s (events.Seed n) w is = absurd (false≢true is)
still-due s (events.Tie a b) w is = absurd (false≢true is)
still-due s (events.Spawn a) w is = absurd (false≢true is)
still-due s (events.Send a t refs) w is = absurd (false≢true is)
still-due s (events.Drop a t) w is = absurd (false≢true is)
still-due s (events.Retire a) w is = absurd (false≢true is)
still-due s e w is = tt

pub act-is_due : (s : Scripted) (a : Actor) (w : List Event) (act : Act) → (let d = doing s a w in due_act d.turn ≡ Some act) → IsDue s (event_of a (Some act)) w
act-is_due s a w (acts.Spawn b) due = (b, due)
act-is_due s a w (acts.Send t refs) due = due
act-is_due s a w (acts.Drop t) due = due
act-is_due s a w acts.Retire due = due

module _ (o : Opening) (h : Calls) (keeps : KeepsTurns o.script (world o h) (open_turns h) (names_at o h) (behaviour_at o h)) (sound : IsSound o.script (world o h)) (p : ℕ) where
  abbrev S : Scripted
  S = o.script

  abbrev W : List Event
  W = world o h

  abbrev Turns : Op → Reply → Type 0
  Turns op r = IsTurnStep o (entry p op r ∷ h) W (event_by S (deed_of op r) W)

  -- a deed that changes no turn, without an event
  quiet : (op : Op) (r : Reply) → changes_turns (deed_of op r) ≡ false → IsTurnStep o (entry p op r ∷ h) W None
  quiet op r turns =
      let same = leaves-turns (deed_of op r) turns in
      keeps-same S W (open_turns h) (open_turns (entry p op r ∷ h)) (names_at o h) (names_at o (entry p op r ∷ h)) (behaviour_at o h) (behaviour_at o (entry p op r ∷ h)) keeps
      (same-turns p op r h same) (λ a. same.names a (names_at o h a)) (λ a. same.behaviours a (behaviour_at o h a))

  -- and with one in which nobody acts
  telling : (op : Op) (r : Reply) (e : Event) → is_still e ≡ true → changes_turns (deed_of op r) ≡ false → IsTurnStep o (entry p op r ∷ h) W (Some e)
  telling op r e is turns =
      let same = leaves-turns (deed_of op r) turns in
      λ legal. (
        still-due S e W is,
        keeps-still S W (open_turns h) (open_turns (entry p op r ∷ h)) (names_at o h) (names_at o (entry p op r ∷ h)) (behaviour_at o h) (behaviour_at o (entry p op r ∷ h)) keeps
            e (still S e W is) (same-turns p op r h same) (λ a. same.names a (names_at o h a)) (λ a. same.behaviours a (behaviour_at o h a)),
      )

  cuts : (d : ℕ) (v : Option ℕ) → IsTurnStep o (entry p (ops.Window d) replies.Done ∷ h) W (option_map (events.Window d) v)
  cuts d None = quiet (ops.Window d) replies.Done refl
  cuts d (Some f) = telling (ops.Window d) replies.Done (events.Window d f) refl refl

  removes : (d : ℕ) (v : Option ℕ) → IsTurnStep o (entry p (ops.Remove d) replies.Done ∷ h) W (option_map (events.Remove d) v)
  removes d None = quiet (ops.Remove d) replies.Done refl
  removes d (Some n) = telling (ops.Remove d) replies.Done (events.Remove d n) refl refl

  carries : (f d : ℕ) (v : Option Event) → next_on_link S f d W ≡ v → IsTurnStep o (entry p (ops.Carry f d) replies.Done ∷ h) W (if_possible S v W)
  carries f d None is = quiet (ops.Carry f d) replies.Done refl
  carries f d (Some e) is =
      elim (is_possible S e W) as (λ v. IsTurnStep o (entry p (ops.Carry f d) replies.Done ∷ h) W (if v then Some e else None)) [
        | false ↦ quiet (ops.Carry f d) replies.Done refl
        | true ↦ (let link = link-event S f d W e is in telling (ops.Carry f d) replies.Done e link.is_still_event refl)
      ]

  -- ---- turns

  -- what a turn begins with, as the operation tells it, is what is left of it in the world
  begins-left : (list : Lists) (refs : List Actor) (b : Begun) (d : Doing) (root : Bool) → b.behaviour ≡ d.behaviour → b.list ≡ list → local_names b.locals ≡ names_of d → b.refs ≡ refs → b.root ≡ root
      → (let now = begins S list refs root d in now.turn ≡ turn_left S.code b)
  begins-left list refs b d root behaviour list_is names refs_are root_is =
      λ i. left (instrs_of S.code (sym behaviour i) (sym list_is i)) (numbered 0 (sym refs_are i) ++ sym names i) (sym root_is i)

  -- a turn begins: its actor was idle and born
  starts : (op : Op) (r : Reply) (b : Begun) (e : Event) (list : Lists) (refs : List Actor) → IsBeginOf op r b → is_born b.actor W ≡ true → is_busy b.actor W ≡ false
      → IsBeginning S b.actor (begins S list refs (is_root b.actor W) (doing S b.actor W)) e W → IsBegun o h list refs b
      → KeepsTurns S (e ∷ W) (open_turns (entry p op r ∷ h)) (names_at o (entry p op r ∷ h)) (behaviour_at o (entry p op r ∷ h))
  starts op r b e list refs deed born idle begin begun =
      let now = begins S list refs (is_root b.actor W) (doing S b.actor W) in
      let d = doing S b.actor W in
      let names : local_names b.locals ≡ names_of d = begun.names ∙ keeps.names_are b.actor born idle in
      let behaviour : b.behaviour ≡ d.behaviour = begun.behaviour ∙ keeps.behaviours_are b.actor born in
      let changes = changes-turn p op r h in
      keeps-begun S W (open_turns h) (open_turns (entry p op r ∷ h)) (names_at o h) (names_at o (entry p op r ∷ h)) (behaviour_at o h) (behaviour_at o (entry p op r ∷ h)) keeps
      p b e now begin idle (record { own = changes.own ∙ deed.opens (open_turns h p); others = changes.others })
      (begins-left list refs b d (is_root b.actor W) behaviour begun.list_is names begun.refs_are begun.root, refl)
      (λ a. deed.names a (names_at o h a)) (λ a. deed.behaviours a (behaviour_at o h a))

  wakes : (b : Begun) → IsBegun o h lists.Wake [] b → Turns ops.Wake (turn_reply b)
  wakes b begun = λ legal.
      let kept = first_broken-none (checks (cluster_of S) (events.Wake b.actor) W) legal in
      (tt, starts ops.Wake (turn_reply b) b (events.Wake b.actor) lists.Wake [] wake-opens kept.0 (not-true (is_busy b.actor W) kept.1.1.1.0) (wake-begins S b.actor W) begun)
    where
      wake-opens : IsBeginOf ops.Wake (turn_reply b) b
      wake-opens = record { opens = λ t. refl; names = λ a n. refl; behaviours = λ a n. refl }

  takes : (b : Begun) → IsBegun o h lists.Message (first_refs (waiting b.actor W)) b → Turns (ops.Take b.actor) (turn_reply b)
  takes b begun = λ legal.
      let kept = first_broken-none (checks (cluster_of S) (events.Take b.actor) W) legal in
      (tt, starts (ops.Take b.actor) (turn_reply b) b (events.Take b.actor) lists.Message (first_refs (waiting b.actor W)) take-opens kept.0 (not-true (is_busy b.actor W) kept.1.1.0) (take-begins S b.actor W) begun)
    where
      take-opens : IsBeginOf (ops.Take b.actor) (turn_reply b) b
      take-opens = record { opens = λ t. refl; names = λ a n. refl; behaviours = λ a n. refl }

  -- the actor of an open turn is busy, and born
  all-born : (c : Actor) → is_busy c W ≡ true → is_born c W ≡ true
  all-born c busy = busy-born (cluster_of S) W sound.0 c busy

  module _ (a : Actor) (t : Open) (is_open : open_turns h p ≡ Some t) (actor : turn_actor t ≡ a) where
    pub actor-busy : is_busy a W ≡ true
    actor-busy = turn_actor-busy S W (open_turns h) (open_turns h) (names_at o h) (names_at o h) (behaviour_at o h) (behaviour_at o h) keeps p t a is_open actor

    actor-reached : (let d = doing S a W in IsReached (turn_left S.code t.begun) t.acts t.children d.turn)
    actor-reached = turn_actor-reached S W (open_turns h) (open_turns h) (names_at o h) (names_at o h) (behaviour_at o h) (behaviour_at o h) keeps p t a is_open actor

  -- the act that fits is due
  pub act-due_now : (a : Actor) (act : Act) (t : Open) → open_turns h p ≡ Some t → IsNextAct S.code a act t → (let d = doing S a W in due_act d.turn ≡ Some act)
  act-due_now a act t is_open next = (let d = doing S a W in act-due (turn_left S.code t.begun) d.turn t.acts t.children (actor-reached a t is_open next.0) act next.1.0 next.1.1)

  -- and nothing is due where a rest fits
  pub none-due_now : (a : Actor) (locals : List (List ℕ × Actor)) (t : Open) → open_turns h p ≡ Some t → IsWholeTurn S.code a locals t → (let d = doing S a W in due_act d.turn ≡ None)
  none-due_now a locals t is_open done = (let d = doing S a W in none-due (turn_left S.code t.begun) d.turn t.acts t.children (actor-reached a t is_open done.0) done.1)

  does : (a : Actor) (act : Act) (t : Open) → open_turns h p ≡ Some t → IsNextAct S.code a act t → Turns (ops.Act a act) (act_reply a act W)
  does a act t is_open next =
      let op = ops.Act a act in
      let r = act_reply a act W in
      let is = deed-act a act W in
      let changes = changes-turn p op r h in
      let grows : ChangesTurn p (open_turns h) (open_turns (entry p op r ∷ h)) (Some (with_act act (child_of a act W) t)) =
      record { own = changes.own ∙ ap (λ x. turn_after x (open_turns h p)) is ∙ ap (grown act (child_of a act W)) is_open; others = changes.others } in
      subst (IsTurnStep o (entry p op r ∷ h) W) (sym (ap (λ x. event_by S x W) is))
      (λ legal. (
        act-is_due S a W act (act-due_now a act t is_open next),
        keeps-acted S W (open_turns h) (open_turns (entry p op r ∷ h)) (names_at o h) (names_at o (entry p op r ∷ h)) (behaviour_at o h) (behaviour_at o (entry p op r ∷ h)) keeps
            p t a is_open next.0 act (act-due_now a act t is_open next) all-born grows (λ c. ap (λ x. names_after x c (names_at o h c)) is) (λ c. ap (λ x. behaviour_after x c (behaviour_at o h c)) is),
      ))

  rests : (a : Actor) (locals : List (List ℕ × Actor)) (t : Open) → open_turns h p ≡ Some t → IsWholeTurn S.code a locals t → Turns (ops.Rest a locals) replies.Done
  rests a locals t is_open done =
      let op = ops.Rest a locals in
      let r = replies.Done in
      let d = doing S a W in
      let l = turn_left S.code t.begun in
      λ legal. (
        tt,
        keeps-rested S W (open_turns h) (open_turns (entry p op r ∷ h)) (names_at o h) (names_at o (entry p op r ∷ h)) (behaviour_at o h) (behaviour_at o (entry p op r ∷ h)) keeps
            p t a is_open done.0 locals (sym (names-left l d.turn t.acts t.children (actor-reached a t is_open done.0) done.1) ∙ done.2) (changes-turn p op r h) (λ c. refl) (λ c. refl),
      )

  -- whatever is granted
  pub granted-turns : (op : Op) (r : Reply) → Fits o h op p → IsGranted o h op W r → Turns op r
  granted-turns (ops.Claim n) r fit done = subst (Turns (ops.Claim n)) (sym done) (quiet (ops.Claim n) replies.Done refl)
  granted-turns ops.Wake r fit done = subst (Turns ops.Wake) (sym done.1) (wakes done.0 done.3)
  granted-turns (ops.Take a) r fit done =
      let b = done.0 in
      let same = subst (λ x. IsBegun o h lists.Message (first_refs (waiting x W)) b) (sym done.2) done.3 in
      subst (λ x. Turns (ops.Take x) r) done.2 (subst (Turns (ops.Take b.actor)) (sym done.1) (takes b same))
  granted-turns (ops.Act a act) r fit done = (let turn = if-open (IsNextAct S.code a act) (open_turns h p) fit in subst (Turns (ops.Act a act)) (sym done) (does a act turn.0 turn.1 turn.2))
  granted-turns (ops.Rest a locals) r fit done = (let turn = if-open (IsWholeTurn S.code a locals) (open_turns h p) fit in subst (Turns (ops.Rest a locals)) (sym done) (rests a locals turn.0 turn.1 turn.2))
  granted-turns (ops.Flush a) r fit done = subst (Turns (ops.Flush a)) (sym done) (telling (ops.Flush a) replies.Done (events.Flush a) refl refl)
  granted-turns (ops.Publish n) r fit done = subst (Turns (ops.Publish n)) (sym done) (telling (ops.Publish n) replies.Done (events.Publish n) refl refl)
  granted-turns (ops.Window d) r fit done = subst (Turns (ops.Window d)) (sym done) (cuts d (next_window S d W))
  granted-turns (ops.Remove d) r fit done = subst (Turns (ops.Remove d)) (sym done) (removes d (next_removal S d W))
  granted-turns (ops.Carry f d) r fit done = subst (Turns (ops.Carry f d)) (sym done) (carries f d (next_on_link S f d W) refl)
  granted-turns (ops.Hand n x j) r fit done = subst (Turns (ops.Hand n x j)) (sym done.2) (telling (ops.Hand n x j) (replies.Bytes done.0) (events.Hand n x j) refl refl)
  granted-turns (ops.Sweep v) r fit done = subst (Turns (ops.Sweep v)) (sym done) (telling (ops.Sweep v) replies.Done (events.Sweep v.node) refl refl)
  granted-turns ops.GiveUp r fit done = absurd done
  granted-turns (ops.Refill skip) r fit done = quiet (ops.Refill skip) r refl
  granted-turns ops.Finished r fit done = subst (Turns ops.Finished) (sym done) (quiet ops.Finished replies.AllDone refl)
