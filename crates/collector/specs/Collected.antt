-- What contracts see of a collector, and how it stands for what it was given.
use Rattle.std.specs.Prelude.{◌≡◌, ◌==◌, ◌<◌, ◌≤◌, ◌&&◌, ℕ, Bool, false, List, [], Some, None, length, replicate, slice_get, take, unwrap_or}
use Rattle.crgc_ids.specs.Actor.{Actor}
use Rattle.history_model.specs.declared.events.Event.{Event}
use Rattle.history_model.specs.declared.records.Bulletin.{Bulletin}
use Rattle.history_model.specs.Cluster.{Cluster}
use Rattle.history_model.specs.Compaction.{AreOwnStops}
use Rattle.history_model.specs.Folds.{Fold, was_handed}
use Rattle.history_model.specs.Streams.{Notice, stream}
use Rattle.history_model.specs.Tells.{Tells}
use Rattle.gossip_core.specs.Gossip.{Gossip, count_at, kept_at, was_offered}
use Rattle.shadow_table.specs.Shadows.{no_shadows}
use Rattle.shadow_graph.specs.Graph.{Graph}
use Rattle.shadow_graph.specs.Seen.{is_dropped}
use Rattle.shadow_graph.specs.Stands.{IsGraphOf}

-- the collector's node; which bulletins are folded and which wait; what is folded; and for each serial of its node whether
-- that actor was stopped
pub record Collected : Type 0 where
  pub node : ℕ
  pub order : Gossip
  pub graph : Graph
  pub stopped : List Bool

-- how many nodes the cluster has
abbrev pub node_count : Collected → ℕ
node_count c = c.order.nodes

-- how many bulletins of the origin are folded
abbrev pub cut_of : Collected → ℕ → ℕ
cut_of c o = count_at c.order o

-- whether bulletin k of the origin is folded or waits
abbrev pub has_number : Collected → ℕ → ℕ → Bool
has_number c o k = was_offered c.order o k

-- no bulletin that waits could be folded
abbrev pub IsSettled : Collected → Type 0
IsSettled c = (o : ℕ) → kept_at c.order o (cut_of c o) ≡ None

-- the flag at a number, which is not set beyond the list's end
abbrev pub flag_at : List Bool → ℕ → Bool
flag_at flags k = unwrap_or (slice_get flags k) false

-- whether the collector stopped the actor
abbrev pub was_stopped : Collected → Actor → Bool
was_stopped c a = (a.node == c.node) && flag_at c.stopped a.serial

-- ---- what it was given

-- the first bulletins of each stream, as many as are folded
abbrev pub folded_of : Collected → Fold → Fold
folded_of c streams = λ o. take (cut_of c o) (streams o)

-- the bulletins that were folded and that wait are those that the streams have under their numbers, and the graph stands for
-- what is folded
pub record IsFedBy (cl : Cluster) (streams : Fold) (c : Collected) : Type 0 where
  pub nodes : node_count c ≡ cl.nodes
  pub graph : IsGraphOf cl (folded_of c streams) c.graph
  pub long : (o : ℕ) → cut_of c o ≤ length (streams o)
  pub beyond : (o : ℕ) → cl.nodes ≤ o → cut_of c o ≡ 0
  pub waiting : (o k : ℕ) (b : Bulletin) → kept_at c.order o k ≡ Some b
      → (n : Notice) × (slice_get (streams o) k ≡ Some n) × Tells o b n

-- the collector is node m's, of a cluster of so many nodes, and was given nothing
pub record IsNew (m nodes : ℕ) (c : Collected) : Type 0 where
  pub node : c.node ≡ m
  pub order : c.order ≡ record { nodes = nodes; cut = replicate 16 0; kept = [] }
  pub stopped : c.stopped ≡ []
  pub shadows : c.graph.shadows ≡ no_shadows
  pub fed : (cl : Cluster) (streams : Fold) → cl.nodes ≡ nodes → IsFedBy cl streams c

-- the collector is node m's at the history: it was given what was handed to m, it folded what it could, and stopped whom m's
-- sweeps stopped
pub record IsCollectorAt (cl : Cluster) (h : List Event) (m : ℕ) (c : Collected) : Type 0 where
  pub node : c.node ≡ m
  pub fed : IsFedBy cl (λ o. stream cl o h) c
  pub handed : (o k : ℕ) → o < cl.nodes → has_number c o k ≡ was_handed m o k h
  pub settled : IsSettled c
  pub stops : AreOwnStops cl m h (is_dropped c.graph) (was_stopped c)
