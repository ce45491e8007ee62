-- What contracts see of a list of edges.
use Rattle.std.specs.Prelude.{ℕ, List}
use Rattle.crgc_ids.specs.Actor.{Actor}
use Rattle.edge_table.specs.declared.table.Edge.{Edge}

-- the pairs of an owner and a target, the edge of each, and for how many more there is room
pub record PairedEdges : Type 0 where
  pub pairs : List (Actor × Actor)
  pub edges : List Edge
  pub room : ℕ
