-- What contracts see of the shadow graph.
use Rattle.std.specs.Prelude.{ℕ, Bool, List, nat_lt}
use Rattle.crgc_ids.specs.LostNodes.{lost_nodes}
use Rattle.edge_table.specs.Table.{Edges}
use Rattle.membership.specs.Noted.{Noted, links_of}
use Rattle.shadow_table.specs.Shadows.{Shadows}
use Rattle.undo_log.specs.declared.corrections.Correction.{Correction}

-- the actors and their shadows, the edges between them, what each node told and what others admitted from it, the Finals, and
-- how many bulletins of each node are folded
pub record Graph : Type 0 where
  pub shadows : Shadows
  pub edges : Edges
  pub log : List (List Correction)
  pub finals : Noted
  pub cut : List ℕ

-- the nodes that are lost by the Finals that are noted
abbrev pub lost_in : Graph → List ℕ
lost_in g = lost_nodes g.finals.nodes (links_of g.finals)

-- whether bulletins are logged: in a cluster of one node none is ever lost, and the log would never be read
abbrev pub is_logging : Graph → Bool
is_logging g = nat_lt 1 g.finals.nodes
