-- What a collector keeps of its own parts.
use Rattle.std.specs.Prelude.{◌≡◌, ◌<◌, ◌≤◌, ℕ, true, Some, length}
use Rattle.crgc_ids.specs.Actor.{Actor}
use Rattle.history_model.specs.declared.records.Bulletin.{Bulletin}
use Rattle.gossip_core.specs.Gossip.{kept_at}
use Rattle.shadow_graph.specs.Seen.{is_dropped}
use Rattle.shadow_table.specs.Shadows.{is_named}
use Rattle.collector.specs.Collected.{Collected, cut_of, node_count, was_stopped}
use Rattle.collector.specs.Refusals.{IsFit}
use Rattle.crgc_ids.specs.declared.limits.TheConstants.{MOST_EVENTS}

-- the graph counts what the order gave up; each bulletin that waits may be folded; whoever was stopped was named, and whoever
-- was dropped was stopped
pub record IsKept (c : Collected) : Type 0 where
  pub node : c.node < node_count c
  pub nodes : c.graph.finals.nodes ≡ node_count c
  pub cut : c.graph.cut ≡ c.order.cut
  pub few : node_count c ≤ 16
  pub long : length c.order.cut ≡ 16
  pub counts : (o : ℕ) → cut_of c o ≤ MOST_EVENTS
  pub beyond : (o : ℕ) → node_count c ≤ o → cut_of c o ≡ 0
  pub fit : (o k : ℕ) (b : Bulletin) → kept_at c.order o k ≡ Some b → IsFit (node_count c) o b
  pub named : (a : Actor) → was_stopped c a ≡ true → is_named c.graph.shadows.names a ≡ true
  pub dropped : (a : Actor) → is_dropped c.graph a ≡ true → was_stopped c a ≡ true
