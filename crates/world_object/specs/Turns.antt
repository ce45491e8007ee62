-- What a turn begins with, and what is due in it.
use Rattle.std.specs.Prelude.{ℕ, ◌≡◌, ◌∷◌, Bool, true, List, Option, Some, None}
use Rattle.crgc_ids.specs.Actor.{Actor}
use Rattle.history_model.specs.declared.events.Event.{Event}
use Rattle.history_model.specs.declared.events.Event.TheVariants.{Rest, Take, Wake}
use Rattle.history_model.specs.Legal.{refusal}
use Rattle.history_model.specs.State.{is_busy}
use Rattle.behaviour_lang.specs.Bound.{local_names}
use Rattle.behaviour_lang.specs.Steps.{due_act}
use Rattle.behaviour_lang.specs.declared.act.Act.{Act}
use Rattle.behaviour_lang.specs.declared.act.Act.TheVariants as acts
use Rattle.behaviour_lang.specs.declared.act.List.{List as Lists}
use Rattle.script_reader.specs.Valid.{Scripted}
use Rattle.run_model.specs.Doing.{cluster_of, event_of}
use Rattle.operation_model.specs.declared.replies.Reply.{Reply}
use Rattle.operation_model.specs.declared.replies.Reply.TheVariants as replies
use Rattle.script_actors.specs.Standing.{AreActorsAt, names_now}
use Rattle.script_actors.specs.Table.{behaviour_at, names_at}
use Rattle.script_actors.specs.Turns.{left_now}
use Rattle.world_object.specs.declared.parts.ClusterParts.{ClusterParts}

-- the answer tells with what the actor's turn begins, and its names are with the turn from then on
pub record Begins (a : Actor) (list : Lists) (refs : List Actor) (root : Bool) (old new : ClusterParts) (r : Reply) : Type 0 where
  pub names : List (List ℕ × Actor)
  pub had : names_at old.actors a ≡ Some names
  pub reply : r ≡ replies.Turn a (behaviour_at old.actors a) list names refs root
  pub others : new ≡ record old { actors = new.actors }
  pub woken : (s : Scripted) (h : List Event) → AreActorsAt s h old.actors → AreActorsAt s (Wake a ∷ h) new.actors
  pub taken : (s : Scripted) (h : List Event) → AreActorsAt s h old.actors → AreActorsAt s (Take a ∷ h) new.actors

-- the actor is busy, and in its turn the act is due, or its end
pub record IsNext (p : ClusterParts) (a : Actor) (act : Option Act) : Type 0 where
  pub busy : is_busy a p.world.past ≡ true
  pub due : due_act (left_now p.script.value a p.world.past) ≡ act

-- these are the names that the actor has once it rests
abbrev pub Keeps : ClusterParts → Actor → List (List ℕ × Actor) → Type 0
Keeps p a locals = local_names locals ≡ names_now p.script.value a (Rest a ∷ p.world.past)

-- an act that gives birth to nobody
abbrev pub IsChildless : Act → Type 0
IsChildless (acts.Spawn b) = ⊥
IsChildless act = Unit {0}

-- the event is the act that is due in the actor's turn, which no rule refuses, and it gives birth to nobody
pub record IsPlainAct (p : ClusterParts) (a : Actor) (e : Event) : Type 0 where
  pub act : Act
  pub next : IsNext p a (Some act)
  pub childless : IsChildless act
  pub is : e ≡ event_of a (Some act)
  pub legal : refusal (cluster_of p.script.value) e p.world.past ≡ None
