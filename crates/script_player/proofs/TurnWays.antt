-- A turn of the driver, from its beginning to its end.
use Rattle.std.proofs.Common.{◌≡◌, ◌<◌, ◌≤◌, ◌+◌, ◌&&◌, ◌++◌, ◌^◌, true, false, nat_lt, List, [], ◌∷◌, length, map, slice_get, Option, Some, None, refl, sym, ◌∙◌, ap, subst, arith, IsTrue}
use Rattle.std.proofs.lemmas.Bool.{and_parts, ltb-true, not-true}
use Rattle.crgc_ids.specs.Actor.{Actor}
use Rattle.history_model.specs.declared.events.Event.{Event}
use Rattle.history_model.specs.declared.events.Event.TheVariants.{Rest, Take, Wake}
use Rattle.history_model.specs.Cluster.{Cluster, is_born}
use Rattle.history_model.specs.Legal.{refusal}
use Rattle.history_model.specs.Messages.{Message, waiting}
use Rattle.history_model.specs.State.{is_busy}
use Rattle.history_model.proofs.AccountsBirths.{born-on_node}
use Rattle.history_model.proofs.Basics.{legal-kept}
use Rattle.journal_model.specs.Lines.{AreWithinRanges}
use Rattle.behaviour_lang.specs.Steps.{due_act}
use Rattle.behaviour_lang.specs.TurnState.{TurnState}
use Rattle.behaviour_lang.specs.declared.act.Act.{Act}
use Rattle.behaviour_lang.specs.declared.act.Act.TheVariants as acts
use Rattle.behaviour_lang.specs.declared.act.Step.TheVariants as steps
use Rattle.script_reader.specs.Valid.{Scripted}
use Rattle.true_config.specs.Applying.{told_of}
use Rattle.true_config.specs.Applying.{first_refs as told_refs}
use Rattle.true_config.specs.declared.applied.Told.{Told}
use Rattle.true_config.specs.declared.applied.Told.TheVariants.{Taken}
use Rattle.true_config.proofs.Bounds.{taken-short}
use Rattle.run_model.specs.Doing.{cluster_of, due, event_of, first_refs}
use Rattle.run_model.specs.Planned.{crash_due, ended, is_possible, is_rest, is_within_budget, next_wake, wakes_left, actors}
use Rattle.run_model.specs.Schedule.{AreDue, one_more, crashed, ended_turn, rounded, turn_done, whole_turn}
use Rattle.run_model.specs.Turns.{BeginsTurn, IsUnderWay}
use Rattle.run_model.proofs.ActsLegal.{busy-born}
use Rattle.run_model.proofs.PartTurns.{due-next, part-under_way}
use Rattle.run_model.proofs.TurnsDue.{due-done}
use Rattle.script_actors.specs.Turns.{Ends, IsAfter, IsTurnOf, left_now}
use Rattle.script_progress.specs.Standing.{IsProgressAt}
use Rattle.script_progress.specs.Used.{Used, wakes_in}
use Rattle.traffic.specs.Readings.{IsNextReady}
use Rattle.script_player.specs.declared.driver.Driver.{Driver}
use Rattle.script_player.specs.declared.fault.RunFault.{RunFault}
use Rattle.script_player.specs.Making.{HaltsOn, NothingCarried}
use Rattle.script_player.specs.Standing.{GoesOn, HasRested, IsActedOut, IsBetween, IsInTurn, IsTurnBegun, IsTurnMade, Stands, StandsAt}
use Rattle.script_player.proofs.Halting.{halts-more}
use Rattle.script_player.proofs.Ranges.{begins-legal, between-legal}
use Rattle.script_player.proofs.Schedules.{ended-is, ended-longer, none-woken, one-taken, one-woken, rounded-longer, whole-begun, whole-longer, whole-more, within-short}
use Rattle.script_player.proofs.Standings.{between-next, found-passes}
use Rattle.script_player.proofs.Takes.{first-ready, none-ready}
use Rattle.run_model.proofs.Possible.{no-rule}

-- ---- it begins

pub turn-begun : (d d' : Driver) (a : Actor) (e : Event) (t : TurnState) → IsBetween d → BeginsTurn a e → refusal (cluster_of d.script.value) e d.course.past ≡ None
    → d'.script.value ≡ d.script.value → StandsAt (e ∷ d.course.past) d' → IsTurnOf d.script.value a (e ∷ d.course.past) t → IsInTurn d'.course.past a d' t
turn-begun d d' a e t (stands, (k, made)) begins none script at turn =
    let s = d.script.value in
    let back = sym script in
    let begun : IsTurnBegun s a d'.course.past = (k, e, at.1 ∙ ap (λ h. e ∷ h) (sym made), begins, subst (λ h. refusal (cluster_of s) e h ≡ None) (sym made) none) in
    record {
      stands = at.0;
      begun = subst (λ x. IsTurnBegun x a d'.course.past) back begun;
      way = ([], refl, tt);
      turn = subst (λ x. IsTurnOf x a d'.course.past t) back (subst (λ h. IsTurnOf s a h t) (sym at.1) turn);
    }

-- who may take was born and is idle
pub taker-idle : (d : Driver) (a : Actor) → IsBetween d → refusal (cluster_of d.script.value) (Take a) d.course.past ≡ None → IsTrue (is_born a d.course.past) × (is_busy a d.course.past ≡ false)
taker-idle d a between none =
    let kept = legal-kept (cluster_of d.script.value) (Take a) d.course.past (none, between-legal d between) in
    (kept.0, not-true (is_busy a d.course.past) kept.1.1.0)

pub waker-idle : (d : Driver) (a : Actor) → IsBetween d → refusal (cluster_of d.script.value) (Wake a) d.course.past ≡ None → IsTrue (is_born a d.course.past) × (is_busy a d.course.past ≡ false)
waker-idle d a between none =
    let kept = legal-kept (cluster_of d.script.value) (Wake a) d.course.past (none, between-legal d between) in
    (kept.0, not-true (is_busy a d.course.past) kept.1.1.1.0)

-- the first message carries 16 references at most
first-few : (ms : List Message) → ((refs : List Actor) → slice_get (map (λ (m : Message). m.refs) ms) 0 ≡ Some refs → length refs ≤ 16) → length (first_refs ms) ≤ 16
first-few [] few = omega arith
first-few (m ∷ ms) few = few m.refs refl

pub taken-few : (a : Actor) (h : List Event) → AreWithinRanges h → length (first_refs (waiting a h)) ≤ 16
taken-few a h ranges = first-few (waiting a h) (λ refs first. taken-short a h refs ranges first)

-- so carries the list that the world tells, which is that of the first message
first-same : (ms : List Message) → told_refs ms ≡ first_refs ms
first-same [] = refl
first-same (m ∷ ms) = refl

pub taken-first : (a : Actor) (h : List Event) (told : Told) (refs : List Actor) → told ≡ told_of (Take a) h → told ≡ Taken refs → refs ≡ first_refs (waiting a h)
taken-first a h told refs tells is = (let same : refs ≡ told_refs (waiting a h) = taken-same refs (told_refs (waiting a h)) (sym is ∙ tells) in same ∙ first-same (waiting a h))
  where
    taken-same : (xs ys : List Actor) → Taken xs ≡ Taken ys → xs ≡ ys
    taken-same xs ys e = cc

-- a turn may begin by the counts
pub budget-left : (s : Scripted) (h : List Event) (p : Used) → IsProgressAt s h p → is_within_budget s h ≡ true → p.begun < p.turns
budget-left s h p progress within =
    let less = ltb-true _ _ within in
    let begun = progress.begun in
    let turns = progress.turns in
    omega (arith, less, begun, turns)

-- the planned wake is legal, and uses one that is left
pub wake-planned : (s : Scripted) (h : List Event) (a : Actor) → next_wake s h ≡ Some a → (0 < wakes_left s a h) × (refusal (cluster_of s) (Wake a) h ≡ None)
wake-planned s h a next =
    let passes = found-passes (λ a. nat_lt 0 (wakes_left s a h) && is_possible s (Wake a) h) (actors s h) a next in
    let parts = and_parts (nat_lt 0 (wakes_left s a h)) (is_possible s (Wake a) h) passes in
    (ltb-true 0 (wakes_left s a h) parts.0, no-rule (refusal (cluster_of s) (Wake a) h) parts.1)

pub wake-left : (s : Scripted) (h : List Event) (a : Actor) (p : Used) → IsProgressAt s h p → next_wake s h ≡ Some a → 0 < wakes_in p a
wake-left s h a p progress next = (let planned = (wake-planned s h a next).0 in let same = progress.wakes a in omega (arith, planned, same))

-- ---- it goes on

pub turn-under_way : (start : List Event) (a : Actor) (d : Driver) (t : TurnState) → IsInTurn start a d t → IsUnderWay d.script.value a d.course.past
turn-under_way start a d t turn =
    let s = d.script.value in
    let begun = turn.begun in
    let way = turn.way in
    let whole = part-under_way s a (begins-legal s turn.stands.script) begun.0 begun.1 way.0 begun.3 begun.4 (subst (λ h. AreDue s a way.0 h) begun.2 way.2) in
    subst (λ h. IsUnderWay s a h) (sym way.1) (subst (λ h. IsUnderWay s a (way.0 ++ h)) (sym begun.2) whole)

-- what a step of the code's turn tells of what is due
pub after-due : (s : Scripted) (a : Actor) (h : List Event) (act : Act) (t : TurnState) → IsAfter s a h (steps.Act act) t → due_act (left_now s a h) ≡ Some act
after-due s a h (acts.Spawn b) t after = after.due
after-due s a h (acts.Send to refs) t after = after.due
after-due s a h (acts.Drop target) t after = after.due
after-due s a h acts.Retire t after = after.due

act-no_rest : (a : Actor) (act : Act) → is_rest (event_of a (Some act)) ≡ false
act-no_rest a (acts.Spawn b) = refl
act-no_rest a (acts.Send to refs) = refl
act-no_rest a (acts.Drop target) = refl
act-no_rest a acts.Retire = refl

due-is : (s : Scripted) (a : Actor) (h : List Event) (v : Option Act) → due_act (left_now s a h) ≡ v → due s a h ≡ event_of a v
due-is s a h v next = ap (event_of a) next

module _ (start : List Event) (a : Actor) (d : Driver) (t : TurnState) (turn : IsInTurn start a d t) (act : Act) (next : due_act (left_now d.script.value a d.course.past) ≡ Some act) where
  abbrev acted : Event
  acted = event_of a (Some act)

  -- the act comes next
  act-due : (let way = turn.way in acted ≡ due d.script.value a (way.0 ++ start))
  act-due = (let way = turn.way in sym (due-is d.script.value a d.course.past (Some act) next) ∙ ap (due d.script.value a) way.1)

  pub turn-acted : (d' : Driver) (t' : TurnState) → d'.script.value ≡ d.script.value → StandsAt (acted ∷ d.course.past) d' → IsTurnOf d'.script.value a d'.course.past t' → IsInTurn start a d' t'
  turn-acted d' t' script at goes =
      let s = d.script.value in
      let back = sym script in
      let way = turn.way in
      let more : GoesOn s a start d'.course.past = (acted ∷ way.0, at.1 ∙ ap (λ h. acted ∷ h) way.1, (act-due, act-no_rest a act, way.2)) in
      record {
        stands = at.0;
        begun = subst (λ x. IsTurnBegun x a start) back turn.begun;
        way = subst (λ x. GoesOn x a start d'.course.past) back more;
        turn = goes;
      }

  pub act-halts : (f : RunFault) → HaltsOn (cluster_of d.script.value) (acted ∷ d.course.past) f → HaltsOn (cluster_of d.script.value) (turn_done d.script.value a start) f
  act-halts f halts =
      let s = d.script.value in
      let way = turn.way in
      let comes = due-next s a way.0 start way.2 in
      let same : due s a (way.0 ++ start) ∷ (way.0 ++ start) ≡ acted ∷ d.course.past = ap (λ e. e ∷ (way.0 ++ start)) (sym act-due) ∙ ap (λ h. acted ∷ h) (sym way.1) in
      halts-more (cluster_of s) (acted ∷ d.course.past) (turn_done s a start) comes.0 f (comes.1 ∙ ap (λ h. comes.0 ++ h) same) halts

-- ---- it ends

pub turn-acted_out : (start : List Event) (a : Actor) (d : Driver) (t t' : TurnState) → IsInTurn start a d t → Ends d.script.value a d.course.past t' → IsActedOut start a d t'
turn-acted_out start a d t t' turn ends =
    let s = d.script.value in
    let way = turn.way in
    let rest : due s a (way.0 ++ start) ≡ Rest a = ap (due s a) (sym way.1) ∙ due-is s a d.course.past None ends.due in
    record {
      stands = turn.stands;
      under = turn-under_way start a d t turn;
      ends = ends;
      done = due-done s a way.0 start way.2 rest ∙ ap (λ h. Rest a ∷ h) (sym way.1);
    }

-- the whole turn is what its end makes of its acts
pub whole-is : (d0 d1 : Driver) (a : Actor) (t : TurnState) → IsActedOut d0.course.past a d1 t → d1.script.value ≡ d0.script.value
    → ended_turn d1.script.value (Rest a ∷ d1.course.past) ≡ whole_turn d0.script.value a d0.course.past
whole-is d0 d1 a t out script = ap (ended_turn d1.script.value) (sym out.done) ∙ ap (λ x. whole_turn x a d0.course.past) script

pub acts-halt : (s : Scripted) (a : Actor) (h : List Event) (f : RunFault) → HaltsOn (cluster_of s) (turn_done s a h) f → HaltsOn (cluster_of s) (whole_turn s a h) f
acts-halt s a h f halts = (let more = whole-longer s a h in halts-more (cluster_of s) (turn_done s a h) (whole_turn s a h) more.0 f more.1 halts)

pub begin-halts : (s : Scripted) (a : Actor) (e : Event) (h : List Event) (cl : Cluster) (f : RunFault) → cl ≡ cluster_of s → HaltsOn cl (e ∷ h) f → HaltsOn (cluster_of s) (whole_turn s a (e ∷ h)) f
begin-halts s a e h cl f same halts =
    let more = whole-begun s a e h in
    halts-more (cluster_of s) (e ∷ h) (whole_turn s a (e ∷ h)) more.0 f more.1 (subst (λ x. HaltsOn x (e ∷ h) f) same halts)

-- the rest, the crash and the round
pub node-there : (d : Driver) (a : Actor) → Stands d → IsUnderWay d.script.value a d.course.past → a.node < d.script.value.nodes
node-there d a stands under =
    let cl = cluster_of d.script.value in
    born-on_node cl d.course.past under.legal a (busy-born cl d.course.past under.legal a under.busy)

-- the end of the turn, put together
pub end-is : (d0 d1 d2 : Driver) (a : Actor) → HasRested a d0.course.past d1 → d1.script.value ≡ d0.script.value → d2.script.value ≡ d1.script.value
    → d2.course.past ≡ crashed (crash_due d1.script.value d1.course.past) d1.course.past
    → rounded d2.script.value (ended d2.course.past) d2.course.past ≡ ended_turn d0.script.value (Rest a ∷ d0.course.past)
end-is d0 d1 d2 a rested first second crash =
    ap (λ h. rounded d2.script.value (ended h) h) crash
    ∙ ap (λ x. rounded x (ended (crashed (crash_due d1.script.value d1.course.past) d1.course.past)) (crashed (crash_due d1.script.value d1.course.past) d1.course.past)) second
    ∙ sym (ended-is d1.script.value d1.course.past)
    ∙ ap (ended_turn d1.script.value) rested.last
    ∙ ap (λ x. ended_turn x (Rest a ∷ d0.course.past)) first

pub rest-halts : (s : Scripted) (e : Event) (h : List Event) (f : RunFault) → HaltsOn (cluster_of s) (e ∷ h) f → HaltsOn (cluster_of s) (ended_turn s (e ∷ h)) f
rest-halts s e h f halts = (let more = ended-longer s (e ∷ h) in halts-more (cluster_of s) (e ∷ h) (ended_turn s (e ∷ h)) more.0 f more.1 halts)

pub crash-halts : (d0 d1 : Driver) (a : Actor) (f : RunFault) → HasRested a d0.course.past d1 → d1.script.value ≡ d0.script.value
    → HaltsOn (cluster_of d1.script.value) (crashed (crash_due d1.script.value d1.course.past) d1.course.past) f → HaltsOn (cluster_of d0.script.value) (ended_turn d0.script.value (Rest a ∷ d0.course.past)) f
crash-halts d0 d1 a f rested script halts =
    let s = d1.script.value in
    let h = d1.course.past in
    let with = crashed (crash_due s h) h in
    let more = rounded-longer s (ended with) with in
    let whole = halts-more (cluster_of s) with (rounded s (ended with) with) more.0 f more.1 halts in
    let same : rounded s (ended with) with ≡ ended_turn s (Rest a ∷ d0.course.past) = sym (ended-is s h) ∙ ap (ended_turn s) rested.last in
    subst (λ x. HaltsOn (cluster_of x) (ended_turn x (Rest a ∷ d0.course.past)) f) script (subst (λ g. HaltsOn (cluster_of s) g f) same whole)

-- a turn more fits the counts
pub short-room : (d : Driver) → Stands d → length d.course.past + 1 < 2 ^ 32
short-room d stands = (let few = within-short (cluster_of d.script.value) d.course.past stands.within in omega (arith, few))

-- ---- whose turn it is

-- the whole turn that a begins with the event is the next thing that the schedule makes
abbrev pub IsTurnNext : Driver → Actor → Event → Type 0
IsTurnNext d a e = one_more d.script.value d.course.past ≡ Some (whole_turn d.script.value a (e ∷ d.course.past))

-- within the budget, where nothing can be carried, a turn may begin
abbrev pub MayBegin : Driver → Type 0
MayBegin d = IsBetween d × NothingCarried d.script.value d.course.past × (is_within_budget d.script.value d.course.past ≡ true)

-- what the turn makes of the driver
pub turn-made : (d d' : Driver) (a : Actor) (e : Event) → IsBetween d → IsTurnNext d a e → d'.script.value ≡ d.script.value
    → StandsAt (whole_turn d.script.value a (e ∷ d.course.past)) d' → IsTurnMade d d' true
turn-made d d' a e between more script at =
    let s = d.script.value in
    let h = d.course.past in
    (between-next d d' (whole_turn s a (e ∷ h)) between.1 more script at, subst (λ g. length h < length g) (sym at.1) (whole-more s a e h))

-- it is that of the lowest actor that may take a message
pub turn-taken : (d : Driver) (a : Actor) → MayBegin d → IsNextReady d.course.past None (Some a) → IsTurnNext d a (Take a)
turn-taken d a (between, carried, within) next =
    let s = d.script.value in
    let h = d.course.past in
    one-taken s h carried within a (first-ready s h (between-legal d between) a next).1

-- where there is none, that of the planned wake
pub turn-woken : (d : Driver) (a : Actor) → MayBegin d → IsNextReady d.course.past None None → next_wake d.script.value d.course.past ≡ Some a → IsTurnNext d a (Wake a)
turn-woken d a (between, carried, within) none next =
    let s = d.script.value in
    let h = d.course.past in
    one-woken s h carried within (none-ready s h (between-legal d between) none) a next

-- where none is planned, there is no next thing
pub turn-none : (d : Driver) → MayBegin d → IsNextReady d.course.past None None → next_wake d.script.value d.course.past ≡ None → one_more d.script.value d.course.past ≡ None
turn-none d (between, carried, within) none next =
    let s = d.script.value in
    let h = d.course.past in
    none-woken s h carried within (none-ready s h (between-legal d between) none) next
