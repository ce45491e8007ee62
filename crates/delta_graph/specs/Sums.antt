-- What contracts say of entries and of their sum.
use Rattle.std.specs.Prelude.{◌+◌, ◌<◌, ◌^◌, ℕ, Bool, true, false, not, List, length}
use Rattle.std.specs.List.{sum_by}
use Rattle.crgc_ids.specs.Actor.{Actor, same_actor}
use Rattle.crgc_ids.specs.declared.rising.PairCount.{PairCount}
use Rattle.history_model.specs.declared.records.Entry.{Entry}
use Rattle.history_model.specs.Graph.{rising_actors}
use Rattle.history_model.specs.Ledgers.{Ledger, actor_total, entries_ledger, ledger_names, pair_total, received_total}
use Rattle.delta_graph.specs.declared.fault.DeltaFault.{DeltaFault}
use Rattle.delta_graph.specs.declared.fault.DeltaFault.TheVariants.{NoMemory, TableFull}
use Rattle.crgc_ids.specs.declared.limits.TheConstants.{MOST_NAMED}

-- all counts of the rows together
abbrev pub count_sum : Ledger → ℕ
count_sum l = sum_by (λ r. r.received) l.states + (sum_by (λ r. r.count) l.sent + (sum_by (λ r. r.count) l.created + sum_by (λ r. r.count) l.released))

-- whether the reference is one of its owner to itself, or else whether it is one to another
abbrev pub is_of_part : Bool → PairCount → Bool
is_of_part true r = same_actor r.owner r.target
is_of_part false r = not (same_actor r.owner r.target)

-- no count of the rows is above what 32 bits hold, those of one actor and of one pair added up
pub record CountsFit (l : Ledger) : Type 0 where
  pub received : (a : Actor) → received_total a l.states < 2 ^ 32
  pub sent : (a : Actor) → actor_total a l.sent < 2 ^ 32
  pub created : (b a : Actor) → pair_total b a l.created < 2 ^ 32
  pub released : (b a : Actor) → pair_total b a l.released < 2 ^ 32

-- how many different actors the entries name
abbrev pub named_count : List Entry → ℕ
named_count entries = length (rising_actors (ledger_names (entries_ledger entries)))

-- what each fault says of the entries: more than 200,000 actors are named, or nothing, for want of memory
abbrev pub IsFaultOf : List Entry → DeltaFault → Type 0
IsFaultOf entries TableFull = MOST_NAMED < named_count entries
IsFaultOf entries NoMemory = Unit {0}
