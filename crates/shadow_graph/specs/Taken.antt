-- What a graph is with the rows of a bulletin taken in.
use Rattle.std.specs.Prelude.{◌≡◌, ◌≢◌, ◌+◌, ◌<◌, ⊤, ◌↔◌, ◌⊎◌, ◌||◌, ℕ, Bool, List, false, not, slice_index, slice_set}
use Rattle.crgc_ids.specs.Actor.{Actor}
use Rattle.crgc_ids.specs.Members.{IsAmong}
use Rattle.crgc_ids.specs.Nodes.{has_node}
use Rattle.history_model.specs.declared.records.Bulletin.{Bulletin}
use Rattle.history_model.specs.declared.records.Bulletin.TheVariants as bulletins
use Rattle.history_model.specs.Cluster.{Cluster}
use Rattle.history_model.specs.Folds.{Fold}
use Rattle.history_model.specs.Ledgers.{ledger_names}
use Rattle.history_model.specs.MoreFolded.{link_rows, own_rows, with_notice}
use Rattle.history_model.specs.Streams.{Notice}
use Rattle.history_model.specs.Tells.{Tells, bulletin_ledger}
use Rattle.membership.specs.Noted.{links_of}
use Rattle.shadow_table.specs.Shadows.{shadow_at}
use Rattle.shadow_rows.specs.Rows.{AddsRows, LogsIf, NamesRows}
use Rattle.shadow_rows.specs.Touched.{LeavesActor, NamesMore, is_touched}
use Rattle.shadow_graph.specs.Graph.{Graph, is_logging, lost_in}
use Rattle.shadow_rows.specs.Losing.{LosesNodes}
use Rattle.shadow_graph.specs.Stands.{IsGraphOf}

-- the rows are counted under the old lost nodes and logged where bulletins are, their actors are named, and the cut counts the
-- bulletin
pub record TakesIn (o : ℕ) (b : Bulletin) (old new : Graph) : Type 0 where
  pub rows : AddsRows o (not (has_node (lost_in old) o)) (own_rows b) (link_rows (has_node (lost_in old)) b)
      old.shadows new.shadows old.edges new.edges
  pub log : LogsIf (is_logging old) o b old.log new.log
  pub names : NamesRows old.shadows.names new.shadows.names (ledger_names (bulletin_ledger b))
  pub more : NamesMore old.shadows.names new.shadows.names
  pub cut : new.cut ≡ slice_set old.cut o (slice_index old.cut o + 1)

-- where no node is newly lost, all counts stay
pub record LosesNone (old new : Graph) : Type 0 where
  pub shadows : lost_in new ≡ lost_in old → new.shadows ≡ old.shadows
  pub edges : lost_in new ≡ lost_in old → new.edges ≡ old.edges

-- the Final of the link from s to o is noted, and the nodes that are newly lost are settled
pub record ClosesLink (s o : ℕ) (old new : Graph) : Type 0 where
  pub nodes : new.finals.nodes ≡ old.finals.nodes
  pub links : (l : ℕ × ℕ) → IsAmong l (links_of new.finals) ↔ ((l ≡ (s, o)) ⊎ IsAmong l (links_of old.finals))
  pub cut : new.cut ≡ old.cut
  pub log : new.log ≡ old.log
  pub names : new.shadows.names ≡ old.shadows.names
  pub counts : LosesNodes old.log (lost_in old) (lost_in new) old.shadows new.shadows old.edges new.edges
  pub dropped : (a : Actor) → (shadow_at new.shadows a).dropped ≡ (shadow_at old.shadows a).dropped
  pub none : LosesNone old new

-- whether rows of the bulletin that count where these nodes are lost tell something of the actor, or of references to it
abbrev pub touches : List ℕ → Bulletin → Actor → Bool
touches lost b a = is_touched (own_rows b) a || is_touched (link_rows (has_node lost) b) a

-- where no node is newly lost, all stays of an actor of which the bulletin tells nothing
abbrev pub LeavesOthers : Bulletin → Graph → Graph → Type 0
LeavesOthers b old new =
    (a : Actor) → touches (lost_in old) b a ≡ false → lost_in new ≡ lost_in old
    → LeavesActor old.shadows new.shadows old.edges new.edges a

-- the bulletin of node o is folded: where the graph stood for a fold, it stands for the fold with the bulletin. The actors that
-- its rows name are named, after those that were; nobody is dropped, others stay as they were, and the cut counts the bulletin
pub record FoldsIn (o : ℕ) (b : Bulletin) (old new : Graph) : Type 0 where
  pub stands : (cl : Cluster) (f : Fold) (n : Notice) → Tells o b n → IsGraphOf cl f old → IsGraphOf cl (with_notice o n f) new
  pub names : NamesRows old.shadows.names new.shadows.names (ledger_names (bulletin_ledger b))
  pub more : NamesMore old.shadows.names new.shadows.names
  pub leaves : LeavesOthers b old new
  pub dropped : (a : Actor) → (shadow_at new.shadows a).dropped ≡ (shadow_at old.shadows a).dropped
  pub cut : new.cut ≡ slice_set old.cut o (slice_index old.cut o + 1)
  pub nodes : new.finals.nodes ≡ old.finals.nodes

-- a window or Final is of a link between two different nodes of so many, into its own node
abbrev pub IsLinked : ℕ → Bulletin → Type 0
IsLinked nodes (bulletins.Delta d) = ⊤
IsLinked nodes (bulletins.Window w) = (w.from < nodes) × (w.from ≢ w.at)
IsLinked nodes (bulletins.Final w) = (w.from < nodes) × (w.from ≢ w.at)
