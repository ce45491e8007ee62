-- What a turn does, from its first instruction to its end.
use Rattle.std.specs.Prelude.{ℕ, Bool, true, false, not, List, [], ◌∷◌, map, Option, Some, None}
use Rattle.std.specs.List.{filter}
use Rattle.crgc_ids.specs.Actor.{Actor}
use Rattle.behaviour_lang.specs.Bound.{Names, bound, without, bind, is_message}
use Rattle.behaviour_lang.specs.declared.act.Act.{Act}
use Rattle.behaviour_lang.specs.declared.act.Act.TheVariants as acts
use Rattle.behaviour_lang.specs.declared.act.Step.{Step}
use Rattle.behaviour_lang.specs.declared.act.Step.TheVariants as steps
use Rattle.behaviour_lang.specs.declared.instr.Instr.{Instr}
use Rattle.behaviour_lang.specs.declared.instr.Instr.TheVariants.{Spawn, Send, Drop, Keep, Work, Retire}
use Rattle.behaviour_lang.specs.declared.instr.Name.{Name}
use Rattle.behaviour_lang.specs.declared.instr.Name.TheVariants.{Message, Local}

-- the drop of a reference that a name holds
abbrev pub drop_of : Option Actor → Option Act
drop_of None = None
drop_of (Some a) = Some (acts.Drop a)

-- an actor before others, where all are there
abbrev pub all_there : Option Actor → Option (List Actor) → Option (List Actor)
all_there (Some a) (Some others) = Some (a ∷ others)
all_there a others = None

-- the actors to which the names are bound; None where one of them is not bound
abbrev pub bound_all : List Name → Names → Option (List Actor)
bound_all [] names = Some []
bound_all (x ∷ xs) names = all_there (bound x names) (bound_all xs names)

-- the send to an actor; None where a name of it is not bound
abbrev pub send_of : Option Actor → Option (List Actor) → Option Act
send_of (Some to) (Some refs) = Some (acts.Send to refs)
send_of to refs = None

-- what `keep` drops, by what m and x are bound to: nothing where m is not bound
abbrev pub drop_for_keep : Option Actor → Option Actor → Option Act
drop_for_keep None x = None
drop_for_keep (Some a) x = drop_of x

-- the names after `keep`, by what m is bound to: x in the place of m, which is bound
abbrev pub kept : List ℕ → ℕ → Option Actor → Names → Names
kept x m None names = names
kept x m (Some a) names = bind x a (without (Message m) (without (Local x) names))

-- the steps of a turn, which are acts and work, and the names that are bound afterwards
pub record Outcome : Type 0 where
  pub steps : List Step
  pub names : Names

-- the act is done first, where there is one
abbrev pub first_act : Option Act → Outcome → Outcome
first_act None o = o
first_act (Some a) o = record { steps = steps.Act a ∷ o.steps; names = o.names }

-- the message names that are still bound are dropped in order
abbrev pub at_end : Names → Outcome
at_end names = record {
  steps = map (λ row. steps.Act (acts.Drop row.1)) (filter is_message names);
  names = filter (λ row. not (is_message row)) names;
}

-- the whole turn. The children are those that its spawns give birth to; it ends with the first spawn that has none
abbrev pub turn : List Instr → Names → Bool → List Actor → Outcome
turn [] names root children = at_end names
turn (Spawn x b ∷ instrs) names root [] =
    first_act (drop_of (bound (Local x) names)) (first_act (Some (acts.Spawn b)) (record { steps = []; names = without (Local x) names }))
turn (Spawn x b ∷ instrs) names root (child ∷ children) =
    first_act (drop_of (bound (Local x) names))
    (first_act (Some (acts.Spawn b)) (turn instrs (bind x child (without (Local x) names)) root children))
turn (Send x refs ∷ instrs) names root children =
    first_act (send_of (bound x names) (bound_all refs names)) (turn instrs names root children)
turn (Drop x ∷ instrs) names root children =
    first_act (drop_of (bound x names)) (turn instrs (without x names) root children)
turn (Keep x m ∷ instrs) names root children =
    first_act (drop_for_keep (bound (Message m) names) (bound (Local x) names))
    (turn instrs (kept x m (bound (Message m) names) names) root children)
turn (Work k ∷ instrs) names root children =
    let rest = turn instrs names root children in
    record { steps = steps.Work k ∷ rest.steps; names = rest.names }
turn (Retire ∷ instrs) names true children = first_act (Some acts.Retire) (turn instrs names false children)
turn (Retire ∷ instrs) names false children = turn instrs names false children

-- the acts among the steps
abbrev pub acts_of : List Step → List Act
acts_of [] = []
acts_of (steps.Act a ∷ done) = a ∷ acts_of done
acts_of (s ∷ done) = acts_of done
