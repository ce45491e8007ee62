-- What contracts see of a `Turn`, and what is left of it.
use Rattle.std.specs.Prelude.{ℕ, ◌≡◌, Bool, true, false, List, [], drop, slice_get, Option, Some, None, IfSome}
use Rattle.behaviour_lang.specs.Bound.{Names, bound, first_message}
use Rattle.behaviour_lang.specs.Held.{names_of}
use Rattle.behaviour_lang.specs.Steps.{Left}
use Rattle.behaviour_lang.specs.declared.act.Act.TheVariants as acts
use Rattle.behaviour_lang.specs.declared.act.List.{List as Which}
use Rattle.behaviour_lang.specs.declared.act.List.TheVariants.{Wake, Message}
use Rattle.behaviour_lang.specs.declared.act.Step.{Step}
use Rattle.behaviour_lang.specs.declared.act.Step.TheVariants as steps
use Rattle.behaviour_lang.specs.declared.code.Behaviour.{Behaviour}
use Rattle.behaviour_lang.specs.declared.instr.Instr.{Instr}
use Rattle.behaviour_lang.specs.declared.instr.Name.TheVariants.{Local}
use Rattle.behaviour_lang.specs.declared.run.Run.{Run}

-- the number of the behaviour and which of its lists is run, how many instructions are done, the bound names, whether
-- the actor is a root, the local name of the child whose birth is owed, and whether the end was met
pub record TurnState : Type 0 where
  pub behaviour : ℕ
  pub list : Which
  pub position : ℕ
  pub names : Names
  pub root : Bool
  pub owed : Option (List ℕ)
  pub ended : Bool

-- what is seen of a turn that runs
abbrev pub state_of : ℕ → Which → Run → Bool → TurnState
state_of behaviour list run ended = record {
  behaviour = behaviour;
  list = list;
  position = run.position;
  names = names_of run.names;
  root = run.root;
  owed = run.owed;
  ended = ended;
}

-- at the end no message name is bound, and the name of a child whose birth is owed is not bound
pub record IsSound (run : Run) (ended : Bool) : Type 0 where
  pub end : ended ≡ true → first_message (names_of run.names) ≡ None
  pub owed : IfSome run.owed (λ x. bound (Local x) (names_of run.names) ≡ None)

-- a turn of that behaviour that begins with these names
abbrev pub at_start : ℕ → Which → Names → Bool → TurnState
at_start behaviour list names root = record {
  behaviour = behaviour;
  list = list;
  position = 0;
  names = names;
  root = root;
  owed = None;
  ended = false;
}

-- the list of a behaviour
abbrev pub list_of : Option Behaviour → Which → List Instr
list_of None list = []
list_of (Some b) Wake = b.wake
list_of (Some b) Message = b.message

-- the list of the behaviour with that number
abbrev pub instrs_of : List Behaviour → ℕ → Which → List Instr
instrs_of behaviours b list = list_of (slice_get behaviours b) list

-- what is left of the turn, where these are the behaviours
abbrev pub left_of : List Behaviour → TurnState → Left
left_of behaviours t = record {
  instrs = drop t.position (instrs_of behaviours t.behaviour t.list);
  names = t.names;
  root = t.root;
  owed = t.owed;
}

abbrev pub is_end : Step → Bool
is_end steps.End = true
is_end s = false

-- whether a step gives birth to a child
abbrev pub is_spawn : Step → Bool
is_spawn (steps.Act (acts.Spawn b)) = true
is_spawn s = false
