-- What contracts see of the progress of a script: how much of its plan is used.
use Rattle.std.specs.Prelude.{◌≡◌, ◌⊎◌, ◌≤◌, ◌+◌, ◌<◌, ◌^◌, ◌==◌, if◌then◌else◌, ℕ, Bool, true, false, List, [], get_or, length, Option, Some, None}
use Rattle.crgc_ids.specs.Actor.{Actor, IsActorBelow, same_actor}
use Rattle.history_model.specs.declared.events.Event.{Event}
use Rattle.history_model.specs.declared.events.Event.TheVariants as events
use Rattle.fault_plan.specs.Rows.{Planned, crash_of}
use Rattle.run_model.specs.Planned.{has_row}
use Rattle.script_progress.specs.declared.carry.Carry.{Carry}
use Rattle.script_progress.specs.declared.carry.Carry.TheVariants.{Admit, Lose, Repeat}

-- of one node: how many turns ended there, and how many wakes each of its seeds has left, by their serials
pub record NodeUsed : Type 0 where
  pub ended : ℕ
  pub wakes : List ℕ

-- how many turns may begin in all, how many began and ended, the nodes, the first seed that may have a wake left, and the
-- rows of the plan that are left
pub record Used : Type 0 where
  pub turns : ℕ
  pub begun : ℕ
  pub ended : ℕ
  pub nodes : List NodeUsed
  pub next : Actor
  pub plan : Planned

abbrev pub unused : NodeUsed
unused = record { ended = 0; wakes = [] }

abbrev pub node_in : Used → ℕ → NodeUsed
node_in p n = get_or p.nodes n unused

-- how many turns ended on node n
abbrev pub ended_in : Used → ℕ → ℕ
ended_in p n = (node_in p n).ended

-- how many wakes the actor has left
abbrev pub wakes_in : Used → Actor → ℕ
wakes_in p a = get_or (node_in p a.node).wakes a.serial 0

-- one turn more fits the counts
pub record HasRoom (p : Used) (n : ℕ) : Type 0 where
  pub ended : p.ended + 1 < 2 ^ 32
  pub there : ended_in p n + 1 < 2 ^ 32

-- whether the node crashes with so many turns that ended there
abbrev pub is_after : Option ℕ → ℕ → Bool
is_after None turns = false
is_after (Some after) turns = after == turns

abbrev pub is_crash_due : Used → ℕ → Bool
is_crash_due p n = (let plan = p.plan in is_after (crash_of n plan.crashes) (ended_in p n))

-- whether the node crashes with the next turn that ends there
abbrev pub crashes_next : Used → ℕ → Bool
crashes_next p n = (let plan = p.plan in is_after (crash_of n plan.crashes) (ended_in p n + 1))

-- what is left to happen to the copy: a repeat, else a loss, else its admission
abbrev pub carry_in : Planned → ℕ → ℕ → ℕ → Carry
carry_in plan f d k = if has_row f d k plan.repeats then Repeat else if has_row f d k plan.losses then Lose else Admit

abbrev pub carried : Carry → ℕ → ℕ → ℕ → Event
carried Repeat f d k = events.Repeat f d k
carried Lose f d k = events.Lose f d k
carried Admit f d k = events.Admit f d k

-- a turn began
abbrev pub with_turn : Used → Used
with_turn p = record p { begun = p.begun + 1 }

-- the actor has one wake less, and each other one what it had; nothing else changed
pub record Wakes (old new : Used) (a : Actor) : Type 0 where
  pub others : new ≡ record old { begun = old.begun + 1; nodes = new.nodes }
  pub count : length new.nodes ≡ length old.nodes
  pub ended : (n : ℕ) → ended_in new n ≡ ended_in old n
  pub wakes : (b : Actor) → wakes_in new b + (if same_actor a b then 1 else 0) ≡ wakes_in old b

-- one turn more ended on the node; nothing else changed
pub record Ends (old new : Used) (n : ℕ) : Type 0 where
  pub others : new ≡ record old { ended = old.ended + 1; nodes = new.nodes }
  pub count : length new.nodes ≡ length old.nodes
  pub ended : (m : ℕ) → ended_in new m ≡ (if n == m then ended_in old m + 1 else ended_in old m)
  pub wakes : (b : Actor) → wakes_in new b ≡ wakes_in old b

-- each actor below this one was passed before, or has no wake left
abbrev pub ArePassed : Used → Actor → Type 0
ArePassed p a = (b : Actor) → IsActorBelow b a → IsActorBelow b p.next ⊎ (wakes_in p b ≡ 0)

-- so has each actor of a node that the progress has
abbrev pub AreAllPassed : Used → Type 0
AreAllPassed p = (b : Actor) → b.node < length p.nodes → IsActorBelow b p.next ⊎ (wakes_in p b ≡ 0)

-- the second actor is the first one, or above it
abbrev pub IsFrom : Actor → Actor → Type 0
IsFrom a b = (a.node < b.node) ⊎ ((a.node ≡ b.node) × (a.serial ≤ b.serial))

-- the actor is above the one that is given, if one is
abbrev pub IsAbove : Option Actor → Actor → Type 0
IsAbove None a = Unit {0}
IsAbove (Some b) a = IsActorBelow b a

-- the lowest actor, of those above the one that is given, that has a wake left; None where there is none
abbrev pub IsNextPlanned : Used → Option Actor → Option Actor → Type 0
IsNextPlanned p after None = (a : Actor) → IsAbove after a → wakes_in p a ≡ 0
IsNextPlanned p after (Some c) =
    IsAbove after c × (0 < wakes_in p c) × ((a : Actor) → IsAbove after a → IsActorBelow a c → wakes_in p a ≡ 0)

-- the lowest actor, from this one on, that has a wake left; None where there is none
abbrev pub IsFirstPlanned : Used → Actor → Option Actor → Type 0
IsFirstPlanned p from None = (a : Actor) → IsFrom from a → wakes_in p a ≡ 0
IsFirstPlanned p from (Some c) =
    IsFrom from c × (0 < wakes_in p c) × ((a : Actor) → IsFrom from a → IsActorBelow a c → wakes_in p a ≡ 0)
