-- What is kept beside the states of a node's actors, so that nobody has to count them.
use Rattle.std.specs.Prelude.{◌≡◌, ◌≤◌, ◌==◌, ◌&&◌, if◌then◌else◌, nat_lt, ℕ, Bool, List, count_by, get_or, length}
use Rattle.crgc_ids.specs.Actor.{Actor, same_actor}
use Rattle.ready_actors.specs.Ready.{has_actor}
use Rattle.actor_states.specs.State.{State, blank_state, has_news}
use Rattle.crgc_ids.specs.declared.limits.TheConstants.{MOST_ACTORS}

-- whether the actor was born on the node, and its log or its flags have something to tell
abbrev pub is_due_among : ℕ → List State → Actor → Bool
is_due_among number actors a =
    (a.node == number) && (nat_lt a.serial (length actors) && has_news (get_or actors a.serial (blank_state a)))

-- the numbers of busy and of stopped actors, and the set of those whose flush is due
pub record IsKept (number : ℕ) (up : Bool) (busy stopped : ℕ) (actors : List State) (due : List Actor) : Type 0 where
  pub few : length actors ≤ MOST_ACTORS
  pub busy_ones : busy ≡ (if up then count_by (λ s. s.busy) actors else 0)
  pub stopped_ones : stopped ≡ count_by (λ s. s.stopped) actors
  pub due_ones : (a : Actor) → has_actor due a ≡ is_due_among number actors a

-- the actor is one of the set exactly where its flush is due, and the others are as before
abbrev pub IsSettled : List Actor → List Actor → Actor → Bool → Type 0
IsSettled old new actor is_due = (a : Actor) → has_actor new a ≡ (if same_actor actor a then is_due else has_actor old a)
