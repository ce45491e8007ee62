-- Where the collectors of a cluster's nodes stand in its history.
use Rattle.std.specs.Prelude.{◌≡◌, ℕ, Bool, true, false, List, Ok, Some, length, slice_get}
use Rattle.history_model.specs.declared.events.Event.{Event}
use Rattle.history_model.specs.declared.events.Event.TheVariants.{Hand, Sweep}
use Rattle.history_model.specs.declared.records.Bulletin.{Bulletin}
use Rattle.history_model.specs.declared.records.Verdict.{Verdict}
use Rattle.history_model.specs.Cluster.{Cluster}
use Rattle.history_model.specs.State.{is_up}
use Rattle.collector.specs.Collected.{Collected, IsCollectorAt}
use Rattle.collector.specs.Refusals.{read_as}
use Rattle.collector.specs.Sweeping.{Compacts, Sweeps}

-- there is one for each node, and that of a node that is up is its node's at the history
pub record AreCollectorsAt (cl : Cluster) (h : List Event) (cs : List Collected) : Type 0 where
  pub count : length cs ≡ cl.nodes
  pub each : (m : ℕ) (c : Collected) → slice_get cs m ≡ Some c → is_up m h ≡ true → IsCollectorAt cl h m c

-- whether the event is one of a collector: a hand or a sweep
abbrev pub is_of_collector : Event → Bool
is_of_collector (Hand m o k) = true
is_of_collector (Sweep m) = true
is_of_collector _ = false

-- a collector of a cluster of so many nodes reads the origin's bytes as a bulletin
abbrev pub IsRead : ℕ → ℕ → List ℕ → Type 0
IsRead nodes origin bytes = (b : Bulletin) × (read_as nodes origin bytes ≡ Ok b)

-- the collector sweeps with this verdict, and then drops whom it stopped
abbrev pub SweepsOut : Collected → Collected → Verdict → Type 0
SweepsOut old new v = (swept : Collected) × Sweeps old swept v × Compacts swept new
