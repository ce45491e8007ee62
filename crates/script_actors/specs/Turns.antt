-- How a turn that the code runs stands to what its actor does by the script and the history.
use Rattle.std.specs.Prelude.{◌≡◌, ◌≤◌, ◌<◌, ℕ, Bool, true, false, List, [], ◌∷◌, length, Option, Some, None, is_some}
use Rattle.crgc_ids.specs.Actor.{Actor, same_actor}
use Rattle.history_model.specs.declared.events.Event.{Event}
use Rattle.history_model.specs.declared.events.Event.TheVariants.{Seed, Tie, Wake, Take, Spawn, Send, Drop, Retire, Rest}
use Rattle.history_model.specs.Cluster.{newborn}
use Rattle.behaviour_lang.specs.Steps.{Left, Next, after_step, due_act, idle, next, next_step, with_child}
use Rattle.behaviour_lang.specs.TurnState.{TurnState, is_end, is_spawn, left_of}
use Rattle.behaviour_lang.specs.declared.act.Act.{Act}
use Rattle.behaviour_lang.specs.declared.act.Act.TheVariants as acts
use Rattle.behaviour_lang.specs.declared.act.Step.{Step}
use Rattle.behaviour_lang.specs.declared.act.Step.TheVariants as steps
use Rattle.behaviour_lang.specs.declared.code.Behaviour.{Behaviour}
use Rattle.script_reader.specs.Valid.{Scripted}
use Rattle.run_model.specs.Doing.{Doing, doing, due, event_of}
use Rattle.script_actors.specs.Standing.{names_now}

-- what is left of an actor's turn
abbrev pub left_now : Scripted → Actor → List Event → Left
left_now s a h = (let d = doing s a h in d.turn)

-- the act that comes next where the work is left out, and what is left after it
abbrev pub next_idle : Left → Next
next_idle l = (let i = idle l in next i.instrs i.names i.root)

-- the code's turn, in which there is still work, goes on with the same acts as the actor's turn
pub record IsTurnOf (s : Scripted) (a : Actor) (h : List Event) (t : TurnState) : Type 0 where
  pub in_code : t.behaviour < length s.code
  pub running : t.ended ≡ false
  pub none_owed : t.owed ≡ None
  pub next : next_idle (left_of s.code t) ≡ next_idle (left_now s a h)

-- the turn made this step
pub record MakesStep (code : List Behaviour) (step : Step) (old new : TurnState) : Type 0 where
  pub is_next : step ≡ next_step (left_of code old)
  pub after : left_of code new ≡ after_step (left_of code old)
  pub behaviour : new.behaviour ≡ old.behaviour
  pub ended : new.ended ≡ is_end step
  pub owed : is_some new.owed ≡ is_spawn step

-- the turn after its child is born
abbrev pub with_birth : Actor → TurnState → TurnState
with_birth child t = record t { names = with_child t.owed child t.names; owed = None }

-- the spawn of a child with that behaviour is due, and the turn goes on once the next actor of its node is born and bound
pub record OwesBirth (s : Scripted) (a : Actor) (h : List Event) (b : ℕ) (t : TurnState) : Type 0 where
  pub due : due_act (left_now s a h) ≡ Some (acts.Spawn b)
  pub in_code : b < length s.code
  pub owed : is_some t.owed ≡ true
  pub bound : (child : Actor) → child ≡ newborn a.node h → IsTurnOf s a (Spawn a ∷ h) (with_birth child t)

-- the references that an act sends
abbrev pub refs_of : Act → List Actor
refs_of (acts.Send t refs) = refs
refs_of act = []

-- the act is the one that is due, and the turn goes on after it; it has at most 16 references
pub record Acts (s : Scripted) (a : Actor) (h : List Event) (act : Act) (t : TurnState) : Type 0 where
  pub due : due_act (left_now s a h) ≡ Some act
  pub few : length (refs_of act) ≤ 16
  pub next : IsTurnOf s a (event_of a (Some act) ∷ h) t

-- the rest is due, and the names of the turn are those that the actor has after it
pub record Ends (s : Scripted) (a : Actor) (h : List Event) (t : TurnState) : Type 0 where
  pub due : due_act (left_now s a h) ≡ None
  pub ended : t.ended ≡ true
  pub names : t.names ≡ names_now s a (Rest a ∷ h)

-- what a step of the code's turn is of the actor's turn
abbrev pub IsAfter : Scripted → Actor → List Event → Step → TurnState → Type 0
IsAfter s a h (steps.Work k) t = IsTurnOf s a h t
IsAfter s a h (steps.Act (acts.Spawn b)) t = OwesBirth s a h b t
IsAfter s a h (steps.Act act) t = Acts s a h act t
IsAfter s a h steps.End t = Ends s a h t

-- the event is one of a's turns
abbrev pub is_of_turn : Actor → Event → Bool
is_of_turn a (Wake b) = same_actor b a
is_of_turn a (Take b) = same_actor b a
is_of_turn a (Spawn b) = same_actor b a
is_of_turn a (Send b t refs) = same_actor b a
is_of_turn a (Drop b t) = same_actor b a
is_of_turn a (Retire b) = same_actor b a
is_of_turn a (Rest b) = same_actor b a
is_of_turn a _ = false
