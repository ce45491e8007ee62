-- What a collector reads bytes as, and why it refuses them.
use Rattle.std.specs.Prelude.{◌≡◌, ◌==◌, ◌&&◌, ◌||◌, not, if◌then◌else◌, ℕ, Bool, List, length, nat_lt, Result, Ok, Err}
use Rattle.std.specs.List.{list_all}
use Rattle.crgc_ids.specs.declared.rising.ActorCount.{ActorCount}
use Rattle.crgc_ids.specs.declared.rising.PairCount.{PairCount}
use Rattle.history_model.specs.declared.records.Bulletin.{Bulletin}
use Rattle.history_model.specs.declared.records.Bulletin.TheVariants as bulletins
use Rattle.history_model.specs.declared.records.StateRow.{StateRow}
use Rattle.history_model.specs.Tells.{origin_of}
use Rattle.graph_wire.specs.declared.fault.ReadFault.{ReadFault}
use Rattle.graph_wire.specs.declared.fault.ReadFault.TheVariants as reads
use Rattle.shadow_graph.specs.Taken.{IsLinked}
use Rattle.wire_grammar.specs.declared.fault.WireFault.{WireFault}
use Rattle.wire_grammar.specs.Reading.{reading}
use Rattle.collector.specs.declared.read.TakeFault.{TakeFault}
use Rattle.collector.specs.declared.read.TakeFault.TheVariants as faults

-- whether the rows name only nodes below `nodes`
abbrev pub states_within : ℕ → List StateRow → Bool
states_within nodes rows = list_all (λ r. nat_lt r.actor.node nodes) rows

abbrev pub counts_within : ℕ → List ActorCount → Bool
counts_within nodes rows = list_all (λ r. nat_lt r.actor.node nodes) rows

abbrev pub pairs_within : ℕ → List PairCount → Bool
pairs_within nodes rows = list_all (λ r. nat_lt r.owner.node nodes && nat_lt r.target.node nodes) rows

-- whether the bulletin names only nodes below `nodes`, as its own, as the other end of its link, and as those of actors
abbrev pub is_within : ℕ → Bulletin → Bool
is_within nodes (bulletins.Delta d) =
    nat_lt d.node nodes && (states_within nodes d.states && (counts_within nodes d.sent && (pairs_within nodes d.created && pairs_within nodes d.released)))
is_within nodes (bulletins.Window w) =
    nat_lt w.at nodes && (nat_lt w.from nodes && (counts_within nodes w.messages && pairs_within nodes w.carried))
is_within nodes (bulletins.Final w) =
    nat_lt w.at nodes && (nat_lt w.from nodes && (counts_within nodes w.messages && pairs_within nodes w.carried))

-- whether it is not the origin's, or names another node than those of the cluster
abbrev pub is_foreign : ℕ → ℕ → Bulletin → Bool
is_foreign nodes origin b = not (origin_of b == origin) || not (is_within nodes b)

-- the bulletin that begins so many bytes, or why it is refused: bytes follow it, or it is foreign
abbrev pub accepted : ℕ → ℕ → ℕ → Bulletin × ℕ → Result Bulletin TakeFault
accepted nodes origin len x =
    if nat_lt x.1 len then Err (faults.Trailing x.1) else (if is_foreign nodes origin x.0 then Err faults.Foreign else Ok x.0)

abbrev pub judged : ℕ → ℕ → ℕ → Result (Bulletin × ℕ) WireFault → Result Bulletin TakeFault
judged nodes origin len (Ok x) = accepted nodes origin len x
judged nodes origin len (Err f) = Err (faults.BadBulletin f)

-- what a collector of a cluster of so many nodes reads the origin's bytes as, or why it refuses them
unfoldable pub read_as : ℕ → ℕ → List ℕ → Result Bulletin TakeFault
read_as nodes origin bytes = judged nodes origin (length bytes) (reading bytes)

-- a collector's fault, where reading has this one
abbrev pub fault_of : ReadFault → TakeFault
fault_of (reads.Wire f) = faults.BadBulletin f
fault_of reads.NoMemory = faults.NoMemory

-- the refusal is the one of the bytes, unless memory ran out
abbrev pub IsRefusal : TakeFault → Result Bulletin TakeFault → Type 0
IsRefusal faults.NoMemory read = Unit {0}
IsRefusal e read = read ≡ Err e

-- the bulletin is the origin's, of a link between two nodes of the cluster, if of any
pub record IsFit (nodes origin : ℕ) (b : Bulletin) : Type 0 where
  pub published : origin_of b ≡ origin
  pub linked : IsLinked nodes b
