-- What the parts of a driver stand for, and how a turn that is under way stands to its beginning.
use Rattle.std.specs.Prelude.{ℕ, ◌≡◌, ◌<◌, ◌∷◌, ◌++◌, Bool, true, false, List, Option, Some, None, length}
use Rattle.crgc_ids.specs.Actor.{Actor}
use Rattle.history_model.specs.declared.events.Event.{Event}
use Rattle.history_model.specs.declared.events.Event.TheVariants.{Crash, Drop, Rest, Retire, Send}
use Rattle.history_model.specs.Legal.{refusal}
use Rattle.behaviour_lang.specs.TurnState.{TurnState}
use Rattle.behaviour_lang.specs.declared.act.Act.{Act}
use Rattle.behaviour_lang.specs.declared.act.Step.TheVariants as steps
use Rattle.script_reader.specs.Valid.{IsScript, Scripted}
use Rattle.run_model.specs.Doing.{cluster_of}
use Rattle.run_model.specs.Planned.{crash_due}
use Rattle.run_model.specs.Schedule.{AreDue, IsWithinLimits, one_more, schedule, turn_done}
use Rattle.run_model.specs.Turns.{BeginsTurn, IsUnderWay}
use Rattle.script_actors.specs.Standing.{AreActorsAt}
use Rattle.script_actors.specs.Turns.{Ends, IsAfter, IsTurnOf}
use Rattle.script_progress.specs.Standing.{IsProgressAt}
use Rattle.script_player.specs.declared.driver.Driver.{Driver}
use Rattle.script_player.specs.Making.{IsScheduled}

-- the actors and the progress stand for the script and the history of the course, which passed no limit
pub record Stands (d : Driver) : Type 0 where
  pub script : IsScript d.script.value
  pub nodes : d.nodes ≡ d.script.value.nodes
  pub code : d.code ≡ d.script.value.code
  pub cluster : d.course.cluster ≡ cluster_of d.script.value
  pub within : IsWithinLimits (cluster_of d.script.value) d.course.past
  pub actors : AreActorsAt d.script.value d.course.past d.actors
  pub progress : IsProgressAt d.script.value d.course.past d.progress

-- the driver stands, and its history is this one
abbrev pub StandsAt : List Event → Driver → Type 0
StandsAt h d = Stands d × (d.course.past ≡ h)

-- the driver stands between two things of the schedule
abbrev pub IsBetween : Driver → Type 0
IsBetween d = Stands d × IsScheduled d.script.value d.course.past

-- whether a turn was made: if so, the history is longer, and else nothing is possible
abbrev pub IsTurnMade : Driver → Driver → Bool → Type 0
IsTurnMade old new true = IsBetween new × (length old.course.past < length new.course.past)
IsTurnMade old new false = IsBetween new × (one_more new.script.value new.course.past ≡ None)

-- the history is that in which a's turn has begun, right after so many things of the schedule
abbrev pub IsTurnBegun : Scripted → Actor → List Event → Type 0
IsTurnBegun s a h = (k : ℕ) × (e : Event) × (h ≡ e ∷ schedule s k) × BeginsTurn a e × (refusal (cluster_of s) e (schedule s k) ≡ None)

-- the history goes on from the beginning of a's turn with acts that were due
abbrev pub GoesOn : Scripted → Actor → List Event → List Event → Type 0
GoesOn s a start h = (q : List Event) × (h ≡ q ++ start) × AreDue s a q start

-- a is in its turn, which began with `start`, and the code's turn goes on as it does
pub record IsInTurn (start : List Event) (a : Actor) (d : Driver) (t : TurnState) : Type 0 where
  pub stands : Stands d
  pub begun : IsTurnBegun d.script.value a start
  pub way : GoesOn d.script.value a start d.course.past
  pub turn : IsTurnOf d.script.value a d.course.past t

-- what a turn does next is an act, or its rest
abbrev pub DoesNext : Scripted → Actor → List Event → Option Act → TurnState → Type 0
DoesNext s a h (Some act) t = IsAfter s a h (steps.Act act) t
DoesNext s a h None t = Ends s a h t

-- a's turn has made all its acts, and only its rest is due
pub record IsActedOut (start : List Event) (a : Actor) (d : Driver) (t : TurnState) : Type 0 where
  pub stands : Stands d
  pub under : IsUnderWay d.script.value a d.course.past
  pub ends : Ends d.script.value a d.course.past t
  pub done : turn_done d.script.value a start ≡ Rest a ∷ d.course.past

-- a has just rested, and no rule refuses the crash that is due
pub record HasRested (a : Actor) (before : List Event) (d : Driver) : Type 0 where
  pub stands : Stands d
  pub last : d.course.past ≡ Rest a ∷ before
  pub crash : (n : ℕ) → crash_due d.script.value (Rest a ∷ before) ≡ Some n
      → refusal (cluster_of d.script.value) (Crash n) (Rest a ∷ before) ≡ None

-- the event is an act of a that gives birth to nobody
abbrev pub IsPlainAct : Actor → Event → Type 0
IsPlainAct a (Send b t refs) = (b ≡ a) × (length refs < 17)
IsPlainAct a (Drop b t) = b ≡ a
IsPlainAct a (Retire b) = b ≡ a
IsPlainAct a _ = ⊥
