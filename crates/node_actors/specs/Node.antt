-- What contracts see of the actors of one node, and how calls change them.
use Rattle.std.specs.Prelude.{◌≡◌, ◌≢◌, ◌+◌, ◌<◌, ◌&&◌, if◌then◌else◌, count_by, nat_lt, ℕ, Bool, true, List, [], Option, get_or, length}
use Rattle.crgc_ids.specs.Actor.{Actor}
use Rattle.ready_actors.specs.Ready.{IsAbove, IsFrom}
use Rattle.actor_states.specs.State.{Begets, IsAlike, IsChild, State, blank_state, has_news}

-- the node's number, whether it is up, and the states of its actors by their serials
pub record NodeState : Type 0 where
  pub number : ℕ
  pub up : Bool
  pub actors : List State

abbrev pub blank_node : ℕ → NodeState
blank_node n = record { number = n; up = true; actors = [] }

-- the state of the actor with this serial: a blank one, if it was not born
abbrev pub state_in : NodeState → ℕ → State
state_in n s = get_or n.actors s (blank_state (record { node = n.number; serial = s }))

-- how many of its actors are busy, while it is up
abbrev pub busy_in : NodeState → ℕ
busy_in n = if n.up then count_by (λ s. s.busy) n.actors else 0

-- the actor was born on the node, and the node is up
pub record IsThere (n : NodeState) (a : Actor) : Type 0 where
  pub here : a.node ≡ n.number
  pub born : a.serial < length n.actors
  pub up : n.up ≡ true

-- the actors are as many, on the same node
abbrev pub KeepsNode : NodeState → NodeState → Type 0
KeepsNode old new = (new.number ≡ old.number) × (new.up ≡ old.up) × (length new.actors ≡ length old.actors)

-- one actor's state changed so, and no other one
pub record ChangesIn (old new : NodeState) (serial : ℕ) (Change : State → State → Type 0) : Type 0 where
  pub node : KeepsNode old new
  pub changed : Change (state_in old serial) (state_in new serial)
  pub others : (s : ℕ) → s ≢ serial → state_in new s ≡ state_in old s

-- one actor more was born on the node, with such a state, and no other state changed
pub record Bears (old new : NodeState) (Newborn : State → Type 0) : Type 0 where
  pub node : (new.number ≡ old.number) × (new.up ≡ old.up)
  pub count : length new.actors ≡ length old.actors + 1
  pub newborn : Newborn (state_in new (length old.actors))
  pub others : (s : ℕ) → s ≢ length old.actors → state_in new s ≡ state_in old s

-- the actor that the next birth on the node gives
abbrev pub next_actor : NodeState → Actor
next_actor n = record { node = n.number; serial = length n.actors }

-- a child was born to the actor, which holds it from now on, and no other state changed
pub record Spawns (old new : NodeState) (parent : Actor) (supervised : Bool) : Type 0 where
  pub node : (new.number ≡ old.number) × (new.up ≡ old.up)
  pub count : length new.actors ≡ length old.actors + 1
  pub child : IsChild (state_in new (length old.actors)) (next_actor old) parent supervised
  pub parent_state : Begets (state_in old parent.serial) (state_in new parent.serial) (next_actor old) parent supervised
  pub others : (s : ℕ) → s ≢ length old.actors → s ≢ parent.serial → state_in new s ≡ state_in old s

-- nothing changed
abbrev pub AreAlike : NodeState → NodeState → Type 0
AreAlike old new = KeepsNode old new × ((s : ℕ) → IsAlike (state_in old s) (state_in new s))

-- whether the actor was born on the node, and something is to tell at its flush
abbrev pub is_due_in : NodeState → Actor → Bool
is_due_in n a = nat_lt a.serial (length n.actors) && has_news (state_in n a.serial)

-- it is the lowest actor of the node whose flush is due, of those above the one that is given
pub record IsNextDue (n : NodeState) (after : Option Actor) (first : Actor) : Type 0 where
  pub here : first.node ≡ n.number
  pub due : is_due_in n first ≡ true
  pub above : IsAbove after first
  pub lowest : (a : Actor) → a.node ≡ n.number → is_due_in n a ≡ true → IsAbove after a → IsFrom first a

-- there is no such actor
abbrev pub NobodyIsDue : NodeState → Option Actor → Type 0
NobodyIsDue n after = (a : Actor) → a.node ≡ n.number → is_due_in n a ≡ true → IsAbove after a → ⊥
