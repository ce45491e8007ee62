-- Collectors that came back from their threads.
use Rattle.std.specs.Prelude.{ℕ, ◌≡◌, ◌<◌, ◌⊎◌, ◌++◌, true, List, [], ◌∷◌, Option, Some, None, slice_get}
use Rattle.std.specs.List.{AllByRecursion}
use Rattle.turn_lock.specs.History.{calls_of}
use Rattle.history_model.specs.declared.events.Event.{Event}
use Rattle.history_model.specs.Cluster.{Cluster}
use Rattle.history_model.specs.Compaction.{AreStopped}
use Rattle.history_model.specs.State.{is_up}
use Rattle.operation_model.specs.Turns.{Calls}
use Rattle.collector.specs.Collected.{Collected, IsCollectorAt, was_stopped}
use Rattle.collected_calls.specs.Collecting.{IsCollectorOf, WasToldDown}
use Rattle.shadow_graph.specs.Seen.{is_dropped}

-- the collector came back with the calls of its pass: it goes with them, or one of them told that its node is down
abbrev pub IsBack : Cluster → Calls → Collected → Type 0
IsBack cl calls c = IsCollectorOf cl calls c ⊎ WasToldDown c.node calls

-- each came back with the calls of one pass, whose number is above this
abbrev pub AreBack : Cluster → ℕ → Calls → List Collected → Type 0
AreBack cl above gathered cs = AllByRecursion (λ c. (p : ℕ) × (above < p) × IsBack cl (calls_of p gathered) c) cs

-- the list has the collector too, last, if there is one and memory for it
abbrev pub KeepsOne : Option Collected → List Collected → List Collected → Type 0
KeepsOne None old new = new ≡ old
KeepsOne (Some c) old new = (new ≡ old ++ c ∷ []) ⊎ (new ≡ old)

-- where its node is up, it is its node's at the history, since a collector has stopped whom it dropped
abbrev pub StandsIfUp : Cluster → List Event → Collected → Type 0
StandsIfUp cl h c = AreStopped (is_dropped c.graph) (was_stopped c) → is_up c.node h ≡ true → IsCollectorAt cl h c.node c

-- the rows are those of the first nodes: each, where its node is up, is its node's at the history
abbrev pub AreRowsAt : Cluster → List Event → List Collected → Type 0
AreRowsAt cl h rows = (m : ℕ) (c : Collected) → slice_get rows m ≡ Some c → is_up m h ≡ true → IsCollectorAt cl h m c
