-- What contracts see of the table of actors, and how its calls change it.
use Rattle.std.specs.Prelude.{◌≡◌, ◌≢◌, ◌+◌, ◌<◌, ◌==◌, ◌&&◌, if◌then◌else◌, ℕ, Bool, false, true, List, [], ◌∷◌, Option}
use Rattle.std.specs.Prelude.{count_by, get_or, length, nat_lt}
use Rattle.std.specs.List.{list_any, sum_by}
use Rattle.crgc_ids.specs.Actor.{Actor, same_actor}
use Rattle.history_model.specs.Facts.{created}
use Rattle.history_model.specs.declared.records.Stop.{Stop}
use Rattle.ready_actors.specs.Ready.{IsAbove, IsFrom}
use Rattle.actor_states.specs.State.{Begets, Gains, IsAlike, IsChild, IsSeed, State, has_news, noting}
use Rattle.node_actors.specs.Node.{NodeState, blank_node, busy_in, state_in}

-- the version of the rules, and the nodes of the cluster
pub record Table : Type 0 where
  pub version : ℕ
  pub nodes : List NodeState

abbrev pub node_in : Table → ℕ → NodeState
node_in r n = get_or r.nodes n (blank_node n)

-- how many actors were born on the node
abbrev pub births_in : Table → ℕ → ℕ
births_in r n = length (node_in r n).actors

-- whether it is up
abbrev pub up_in : Table → ℕ → Bool
up_in r n = (node_in r n).up

-- the state of the actor: a blank one, if it was not born
abbrev pub state_at : Table → Actor → State
state_at r a = state_in (node_in r a.node) a.serial

-- the actor was born, and its node is up
pub record IsHere (r : Table) (a : Actor) : Type 0 where
  pub born : a.serial < births_in r a.node
  pub up : up_in r a.node ≡ true

-- how many actors of the node were stopped
abbrev pub stopped_in : Table → ℕ → ℕ
stopped_in r n = count_by (λ s. s.stopped) (node_in r n).actors

-- how many actors are busy on nodes that are up
abbrev pub busy_total : Table → ℕ
busy_total r = sum_by busy_in r.nodes

-- the actor was born, its node is up, and its log or its flags have something to tell
abbrev pub may_be_flushed : Table → Actor → Bool
may_be_flushed r a = up_in r a.node && (nat_lt a.serial (births_in r a.node) && has_news (state_at r a))

-- it is the lowest actor of the node that may be flushed, of those above the one that is given
pub record IsNextFlush (r : Table) (n : ℕ) (after : Option Actor) (first : Actor) : Type 0 where
  pub here : first.node ≡ n
  pub may : may_be_flushed r first ≡ true
  pub above : IsAbove after first
  pub lowest : (a : Actor) → a.node ≡ n → may_be_flushed r a ≡ true → IsAbove after a → IsFrom first a

-- there is no such actor
abbrev pub NobodyIsFlushed : Table → ℕ → Option Actor → Type 0
NobodyIsFlushed r n after = (a : Actor) → a.node ≡ n → may_be_flushed r a ≡ true → IsAbove after a → ⊥

-- ---- changes

-- the nodes are up or not as before, and no actor was born
pub record KeepsTable (old new : Table) : Type 0 where
  pub version : new.version ≡ old.version
  pub count : length new.nodes ≡ length old.nodes
  pub up : (n : ℕ) → up_in new n ≡ up_in old n
  pub births : (n : ℕ) → births_in new n ≡ births_in old n

-- nothing changed
abbrev pub IsAsBefore : Table → Table → Type 0
IsAsBefore old new = KeepsTable old new × ((a : Actor) → IsAlike (state_at old a) (state_at new a))

-- one actor's state changed so, and no other one
pub record Changes (old new : Table) (a : Actor) (Change : State → State → Type 0) : Type 0 where
  pub kept : KeepsTable old new
  pub changed : Change (state_at old a) (state_at new a)
  pub others : (b : Actor) → b ≢ a → state_at new b ≡ state_at old b

-- the owner got a reference to the target, which noted it
pub record Ties (old new : Table) (owner target : Actor) : Type 0 where
  pub kept : KeepsTable old new
  pub owner_state : Gains (state_at old owner) (state_at new owner) (target ∷ [])
  pub target_state : state_at new target ≡ noting (created owner target ∷ []) (state_at old target)
  pub others : (b : Actor) → b ≢ owner → b ≢ target → state_at new b ≡ state_at old b

-- the actor that the next birth on the node gives
abbrev pub next_on : Table → ℕ → Actor
next_on r n = record { node = n; serial = births_in r n }

-- one actor more was born on the node
pub record IsBirth (old new : Table) (n : ℕ) : Type 0 where
  pub version : new.version ≡ old.version
  pub count : length new.nodes ≡ length old.nodes
  pub up : (m : ℕ) → up_in new m ≡ up_in old m
  pub births : (m : ℕ) → births_in new m ≡ births_in old m + (if n == m then 1 else 0)

-- it was a seed
pub record Seeds (old new : Table) (n : ℕ) : Type 0 where
  pub birth : IsBirth old new n
  pub newborn : IsSeed (state_at new (next_on old n)) (next_on old n)
  pub others : (b : Actor) → b ≢ next_on old n → state_at new b ≡ state_at old b

-- it was a child of the actor, which holds it from now on; in version 2 it holds its parent
pub record SpawnsFrom (old new : Table) (parent : Actor) : Type 0 where
  pub birth : IsBirth old new parent.node
  pub child : IsChild (state_at new (next_on old parent.node)) (next_on old parent.node) parent (old.version == 2)
  pub parent_state : Begets (state_at old parent) (state_at new parent) (next_on old parent.node) parent (old.version == 2)
  pub others : (b : Actor) → b ≢ next_on old parent.node → b ≢ parent → state_at new b ≡ state_at old b

-- the node is down from now on
pub record Crashes (old new : Table) (n : ℕ) : Type 0 where
  pub version : new.version ≡ old.version
  pub count : length new.nodes ≡ length old.nodes
  pub up : (m : ℕ) → up_in new m ≡ (if n == m then false else up_in old m)
  pub births : (m : ℕ) → births_in new m ≡ births_in old m
  pub states : (a : Actor) → state_at new a ≡ state_at old a

-- the actor is one of those that are stopped
abbrev pub is_among_stops : List Stop → Actor → Bool
is_among_stops stops a = list_any (λ s. same_actor s.actor a) stops

-- the stopped actors are those that were, and those of these stops
pub record Stops (old new : Table) (stops : List Stop) : Type 0 where
  pub kept : KeepsTable old new
  pub states : (a : Actor) → state_at new a ≡ (if is_among_stops stops a then record (state_at old a) { stopped = true } else state_at old a)
