-- What contracts see of the nodes: which are up, and how many live messages go to each.
use Rattle.std.specs.Prelude.{◌≡◌, ◌==◌, ℕ, Bool, true, false, if◌then◌else◌, List, get_or}

-- for each node whether it is up, and how many live messages go to its actors
pub record Loads : Type 0 where
  pub up : List Bool
  pub live : List ℕ

-- those of one node; where there is none, it is up, and nothing goes there
abbrev pub up_in : Loads → ℕ → Bool
up_in loads n = get_or loads.up n true

abbrev pub live_in : Loads → ℕ → ℕ
live_in loads n = get_or loads.live n 0

-- so many messages go to this node now, to each other one as many as before, and the same nodes are up
pub record ChangesLive (old new : Loads) (node : ℕ) (count : ℕ) : Type 0 where
  pub live : (n : ℕ) → live_in new n ≡ (if node == n then count else live_in old n)
  pub up : (n : ℕ) → up_in new n ≡ up_in old n

-- the node is down, and nothing goes there; each other one is as it was
pub record GoesDown (old new : Loads) (node : ℕ) : Type 0 where
  pub live : (n : ℕ) → live_in new n ≡ (if node == n then 0 else live_in old n)
  pub up : (n : ℕ) → up_in new n ≡ (if node == n then false else up_in old n)
