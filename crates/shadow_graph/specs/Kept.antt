-- What the graph keeps of its own parts.
use Rattle.std.specs.Prelude.{◌≡◌, ◌+◌, ◌*◌, ◌≤◌, ℕ, List, Option, count_by, length}
use Rattle.std.specs.List.{AllByRecursion, sum_by}
use Rattle.crgc_ids.specs.Actor.{Actor}
use Rattle.crgc_ids.specs.LostNodes.{lost_nodes}
use Rattle.crgc_ids.specs.Nodes.{has_node, nodes_below}
use Rattle.edge_table.specs.Table.{Edges}
use Rattle.membership.specs.Noted.{Noted, links_of}
use Rattle.shadow_table.specs.Shadows.{Shadows, shadow_at}
use Rattle.undo_log.specs.Told.{admitted_from, told_by}
use Rattle.undo_log.specs.declared.corrections.Correction.{Correction}
use Rattle.shadow_rows.specs.Rows.{IsLogCovered}
use Rattle.shadow_rows.specs.Pairs.{IsWithin, edge_between}
use Rattle.shadow_rows.specs.Tabled.{AreTabled}
use Rattle.crgc_ids.specs.declared.limits.TheConstants.{MOST_EVENTS}

-- each bulletin counts something less than 2^32 times, and each node's corrections less than 2^56 times
pub record AreWithin (folded lost : ℕ) (shadows : Shadows) (edges : Edges) (log : List (List Correction)) : Type 0 where
  pub received : (a : Actor) → (shadow_at shadows a).received ≤ folded * 4294967296
  pub told : (a : Actor) → (shadow_at shadows a).told ≤ folded * 4294967296
  pub admitted : (a : Actor) → (shadow_at shadows a).admitted ≤ folded * 4294967296 + lost * 72057594037927936
  pub count : (b a : Actor) → IsWithin (folded * 4294967296 + lost * 72057594037927936) (edge_between edges b a).count
  pub log_told : (n : ℕ) (owner : Option Actor) (target : Actor) → told_by log n owner target ≤ folded * 4294967296
  pub log_admitted : (n : ℕ) (owner : Option Actor) (target : Actor) → admitted_from log n owner target ≤ folded * 4294967296

-- how many of the 16 nodes that there may be are among these
abbrev pub lost_count : List ℕ → ℕ
lost_count lost = count_by (has_node lost) (nodes_below 16)

-- how the parts of the graph stand to each other
pub record IsKept (shadows : Shadows) (edges : Edges) (log : List (List Correction)) (finals : Noted) (lost cut : List ℕ) : Type 0 where
  pub tabled : AreTabled shadows.names edges
  pub covered : IsLogCovered shadows edges log
  pub within : AreWithin (sum_by (λ k. k) cut) (lost_count lost) shadows edges log
  pub by_finals : lost ≡ lost_nodes finals.nodes (links_of finals)
  pub counts : AllByRecursion (λ k. k ≤ MOST_EVENTS) cut
  pub long : length cut ≡ 16
  pub few : finals.nodes ≤ 16
