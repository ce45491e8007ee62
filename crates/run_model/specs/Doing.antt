-- Who does what, by a script and a history: the history's beginning, the behaviour and the names of each actor, and what
-- is left of the turn that it is in.
use Rattle.std.specs.Prelude.{ℕ, ◌==◌, ◌&&◌, Bool, true, false, not, nat_lt, codes, if◌then◌else◌, List, [], ◌∷◌, ◌++◌, length, map, get_or, Option, Some, None}
use Rattle.std.specs.List.{list_all}
use Rattle.crgc_ids.specs.Actor.{Actor, same_actor}
use Rattle.history_model.specs.declared.events.Event.{Event}
use Rattle.history_model.specs.declared.events.Event.TheVariants.{Seed, Tie, Wake, Take, Spawn, Send, Drop, Retire, Rest, Flush, Publish, Window, Admit, Lose, Repeat, Crash, Remove, Hand, Sweep}
use Rattle.history_model.specs.Cluster.{Cluster, newborn}
use Rattle.history_model.specs.Messages.{Message, waiting}
use Rattle.history_model.specs.State.{is_root}
use Rattle.history_model.specs.Rows.{onto}
use Rattle.behaviour_lang.specs.Bound.{Names, bind, numbered}
use Rattle.behaviour_lang.specs.Steps.{Left, left, due_act, after_act}
use Rattle.behaviour_lang.specs.TurnState.{instrs_of}
use Rattle.behaviour_lang.specs.declared.act.Act.{Act}
use Rattle.behaviour_lang.specs.declared.act.Act.TheVariants as acts
use Rattle.behaviour_lang.specs.declared.act.List.{List as Which}
use Rattle.behaviour_lang.specs.declared.act.List.TheVariants as lists
use Rattle.script_reader.specs.Valid.{Scripted}
use Rattle.script_reader.specs.declared.script.Seed.{Seed as SeedRow}
use Rattle.script_reader.specs.declared.script.Tie.{Tie as TieRow}

-- The beginning.

-- the cluster of a script; its histories are of version 2
abbrev pub cluster_of : Scripted → Cluster
cluster_of s = record { nodes = s.nodes; version = 2 }

-- the actors that the seeds are, in order, where h is the history before
abbrev pub seeded : List SeedRow → List Event → List Actor
seeded [] h = []
seeded (x ∷ seeds) h = newborn x.node h ∷ seeded seeds (Seed x.node ∷ h)

abbrev pub seed_actors : Scripted → List Actor
seed_actors s = seeded s.seeds []

-- the seed with this number; ties name only seeds that the script has
abbrev pub seed_number : Scripted → ℕ → Actor
seed_number s i = get_or (seed_actors s) i (record { node = 0; serial = 0 })

abbrev pub tie_of : Scripted → TieRow → Event
tie_of s t = Tie (seed_number s t.from) (seed_number s t.to)

-- the seeds and the ties, in order
abbrev pub beginning : Scripted → List Event
beginning s = onto (onto [] (map (λ (x : SeedRow). Seed x.node) s.seeds)) (map (tie_of s) s.ties)

-- a script that stays in its ranges: seeds are on nodes of the cluster, and ties lead from seeds to other seeds
abbrev pub is_tie_in : ℕ → TieRow → Bool
is_tie_in seeds t = nat_lt t.from seeds && (nat_lt t.to seeds && not (t.to == t.from))

abbrev pub is_in_ranges : Scripted → Bool
is_in_ranges s =
    list_all (λ (x : SeedRow). nat_lt x.node s.nodes) s.seeds && list_all (is_tie_in (length s.seeds)) s.ties

-- Each actor as it is born.

-- the row of the seed that is actor a
abbrev pub row_of : List SeedRow → List Event → Actor → Option SeedRow
row_of [] h a = None
row_of (x ∷ seeds) h a = if same_actor (newborn x.node h) a then Some x else row_of seeds (Seed x.node ∷ h) a

-- the names that the ties bind in actor a, beside those that are bound
abbrev pub tied : Scripted → List TieRow → Actor → Names → Names
tied s [] a names = names
tied s (t ∷ ties) a names =
    tied s ties a (if same_actor (seed_number s t.from) a then bind t.name (seed_number s t.to) names else names)

-- an actor is born with the name `self`; a seed also has the names of its ties
abbrev pub own_name : Actor → Names
own_name a = bind (codes "self") a []

abbrev pub first_names : Scripted → Actor → Names
first_names s a = tied s s.ties a (own_name a)

-- What an actor does.

-- the number of its behaviour, and what is left of its turn: between turns nothing but the names
pub record Doing : Type 0 where
  pub behaviour : ℕ
  pub turn : Left

abbrev pub at_rest : ℕ → Names → Doing
at_rest behaviour names = record { behaviour = behaviour; turn = left [] names false }

-- a seed at its birth
abbrev pub behaviour_of : Option SeedRow → ℕ
behaviour_of None = 0
behaviour_of (Some x) = x.behaviour

abbrev pub as_seed : Scripted → Actor → Doing
as_seed s a = at_rest (behaviour_of (row_of s.seeds [] a)) (first_names s a)

-- a child at its birth; its behaviour is that of the spawn that was due
abbrev pub spawned : Option Act → ℕ
spawned (Some (acts.Spawn b)) = b
spawned due = 0

abbrev pub as_child : Doing → Actor → Doing
as_child parent a = at_rest (let l = parent.turn in spawned (due_act l)) (own_name a)

-- a turn begins: the actor runs that list of its behaviour, and the references of the message are bound in order
abbrev pub begins : Scripted → Which → List Actor → Bool → Doing → Doing
begins s list refs root d = record {
  behaviour = d.behaviour;
  turn = (let l = d.turn in left (instrs_of s.code d.behaviour list) (numbered 0 refs ++ l.names) root);
}

-- the references of the first message
abbrev pub first_refs : List Message → List Actor
first_refs [] = []
first_refs (m ∷ ms) = m.refs

-- the act that was due is done, with that child. Where none was due, the turn comes to its end: a last `keep` binds its name
abbrev pub acts_on : Option Actor → Doing → Doing
acts_on child d = record { behaviour = d.behaviour; turn = after_act child d.turn }

-- what actor a does. No other event than these changes it
abbrev pub doing : Scripted → Actor → List Event → Doing
doing s a [] = as_seed s a
doing s a (Wake b ∷ p) =
    elim (same_actor b a) as (λ _. Doing) [ true ↦ begins s lists.Wake [] (is_root a p) (doing s a p) | false ↦ doing s a p ]
doing s a (Take b ∷ p) =
    elim (same_actor b a) as (λ _. Doing) [
      | true ↦ begins s lists.Message (first_refs (waiting a p)) (is_root a p) (doing s a p)
      | false ↦ doing s a p
    ]
doing s a (Spawn b ∷ p) =
    elim (same_actor b a) as (λ _. Doing) [
      | true ↦ acts_on (Some (newborn b.node p)) (doing s a p)
      | false ↦ elim (same_actor (newborn b.node p) a) as (λ _. Doing) [ true ↦ as_child (doing s b p) a | false ↦ doing s a p ]
    ]
doing s a (Send b t refs ∷ p) = elim (same_actor b a) as (λ _. Doing) [ true ↦ acts_on None (doing s a p) | false ↦ doing s a p ]
doing s a (Drop b t ∷ p) = elim (same_actor b a) as (λ _. Doing) [ true ↦ acts_on None (doing s a p) | false ↦ doing s a p ]
doing s a (Retire b ∷ p) = elim (same_actor b a) as (λ _. Doing) [ true ↦ acts_on None (doing s a p) | false ↦ doing s a p ]
doing s a (Rest b ∷ p) = elim (same_actor b a) as (λ _. Doing) [ true ↦ acts_on None (doing s a p) | false ↦ doing s a p ]
doing s a (Seed n ∷ p) = doing s a p
doing s a (Tie b t ∷ p) = doing s a p
doing s a (Flush b ∷ p) = doing s a p
doing s a (Publish n ∷ p) = doing s a p
doing s a (Window d f ∷ p) = doing s a p
doing s a (Admit f d k ∷ p) = doing s a p
doing s a (Lose f d k ∷ p) = doing s a p
doing s a (Repeat f d k ∷ p) = doing s a p
doing s a (Crash n ∷ p) = doing s a p
doing s a (Remove m n ∷ p) = doing s a p
doing s a (Hand m o k ∷ p) = doing s a p
doing s a (Sweep m ∷ p) = doing s a p

-- the event of an act; where none is due, the turn rests
abbrev pub event_of : Actor → Option Act → Event
event_of a (Some (acts.Spawn b)) = Spawn a
event_of a (Some (acts.Send t refs)) = Send a t refs
event_of a (Some (acts.Drop t)) = Drop a t
event_of a (Some acts.Retire) = Retire a
event_of a None = Rest a

-- what is due next in a's turn
abbrev pub due : Scripted → Actor → List Event → Event
due s a h = (let d = doing s a h in event_of a (due_act d.turn))
