-- What the table of actors keeps of its nodes.
use Rattle.std.specs.Prelude.{◌≡◌, ◌≤◌, ℕ, List, get_or, length}
use Rattle.node_actors.specs.Node.{NodeState, blank_node}

-- there are 16 nodes at most, each at the place of its number
pub record AreNumbered (nodes : List NodeState) : Type 0 where
  pub few : length nodes ≤ 16
  pub numbers : (n : ℕ) → (get_or nodes n (blank_node n)).number ≡ n
