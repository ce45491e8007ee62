-- Ledgers: the rows in which entries, Deltas and Windows count what facts say one by one.
use Rattle.std.specs.Prelude.{◌≡◌, ◌<◌, ◌&&◌, ◌++◌, if◌then◌else◌, ℕ, List, [], ◌∷◌, map, Option, Some, None, unwrap_or}
use Rattle.std.specs.List.{AllByRecursion, flat_map, sum_by}
use Rattle.crgc_ids.specs.Actor.{Actor, IsActorBelow, IsPairBelow}
use Rattle.crgc_ids.specs.Rising.{IsRising}
use Rattle.crgc_ids.specs.declared.rising.ActorCount.{ActorCount}
use Rattle.crgc_ids.specs.declared.rising.PairCount.{PairCount}
use Rattle.history_model.specs.declared.records.Delta.{Delta}
use Rattle.history_model.specs.declared.records.Entry.{Entry}
use Rattle.history_model.specs.declared.records.StateRow.{StateRow}
use Rattle.history_model.specs.declared.records.Window.{Window}
use Rattle.history_model.specs.Cluster.{same_actor}
use Rattle.history_model.specs.Tally.{tally}
use Rattle.history_model.specs.Facts.{Flags, Fact, is_received, is_sent_to, is_created, is_released}
use Rattle.history_model.specs.Graph.{last_flags}

-- ---- what is counted

-- what facts or rows count: of each actor the messages that it took, its last flags and the messages to it; of each pair of
-- an owner and a target the references made and given up
pub record Counts : Type 0 where
  pub received : Actor → ℕ
  pub flags : Actor → Option Flags
  pub sent : Actor → ℕ
  pub created : Actor → Actor → ℕ
  pub released : Actor → Actor → ℕ

-- both count the same
pub record CountAlike (c d : Counts) : Type 0 where
  pub received : (a : Actor) → c.received a ≡ d.received a
  pub flags : (a : Actor) → c.flags a ≡ d.flags a
  pub sent : (a : Actor) → c.sent a ≡ d.sent a
  pub created : (b a : Actor) → c.created b a ≡ d.created b a
  pub released : (b a : Actor) → c.released b a ≡ d.released b a

-- what facts count, in whatever order they stand
abbrev pub fact_counts : List Fact → Counts
fact_counts facts = record {
  received = λ a. tally (is_received a) facts;
  flags = λ a. last_flags a facts;
  sent = λ a. tally (is_sent_to a) facts;
  created = λ b a. tally (is_created b a) facts;
  released = λ b a. tally (is_released b a) facts;
}

-- ---- rows

-- rows of states, of messages to an actor, of references made for an owner, and of references given up by an owner
pub record Ledger : Type 0 where
  pub states : List StateRow
  pub sent : List ActorCount
  pub created : List PairCount
  pub released : List PairCount

abbrev pub delta_ledger : Delta → Ledger
delta_ledger d = record { states = d.states; sent = d.sent; created = d.created; released = d.released }

-- a message that was admitted counts as one that was sent, and its references as made for its recipient
abbrev pub window_ledger : Window → Ledger
window_ledger w = record { states = []; sent = w.messages; created = w.carried; released = [] }

-- an entry has one state, and its actor gave up what it says was given up
abbrev pub entry_ledger : Entry → Ledger
entry_ledger e = record {
  states = record { actor = e.actor; received = e.received; busy = e.busy; root = e.root } ∷ [];
  sent = e.sent;
  created = e.created;
  released = map (λ r. record { owner = e.actor; target = r.actor; count = r.count }) e.released;
}

abbrev pub no_rows : Ledger
no_rows = record { states = []; sent = []; created = []; released = [] }

-- the rows of both, those of the first before those of the second
abbrev pub joined : Ledger → Ledger → Ledger
joined l m = record {
  states = l.states ++ m.states;
  sent = l.sent ++ m.sent;
  created = l.created ++ m.created;
  released = l.released ++ m.released;
}

-- the rows of all entries, in their order
abbrev pub entries_ledger : List Entry → Ledger
entries_ledger [] = no_rows
entries_ledger (e ∷ es) = joined (entry_ledger e) (entries_ledger es)

-- how many messages the actor took, by its rows
abbrev pub received_total : Actor → List StateRow → ℕ
received_total a rows = sum_by (λ r. if same_actor a r.actor then r.received else 0) rows

abbrev pub state_flags : StateRow → Flags
state_flags r = record { busy = r.busy; root = r.root }

-- the flags of the actor's last row
abbrev pub row_flags : Actor → List StateRow → Option Flags
row_flags a [] = None
row_flags a (r ∷ rest) =
    if same_actor a r.actor then Some (unwrap_or (row_flags a rest) (state_flags r)) else row_flags a rest

-- how often the rows count the actor
abbrev pub actor_total : Actor → List ActorCount → ℕ
actor_total a rows = sum_by (λ r. if same_actor a r.actor then r.count else 0) rows

-- how often they count the pair
abbrev pub pair_total : Actor → Actor → List PairCount → ℕ
pair_total owner target rows =
    sum_by (λ r. if same_actor owner r.owner && same_actor target r.target then r.count else 0) rows

-- what the rows count
abbrev pub ledger_counts : Ledger → Counts
ledger_counts l = record {
  received = λ a. received_total a l.states;
  flags = λ a. row_flags a l.states;
  sent = λ a. actor_total a l.sent;
  created = λ b a. pair_total b a l.created;
  released = λ b a. pair_total b a l.released;
}

abbrev pub pair_names : List PairCount → List Actor
pair_names rows = flat_map (λ r. r.owner ∷ r.target ∷ []) rows

-- the actors that the rows name
abbrev pub ledger_names : Ledger → List Actor
ledger_names l = map (λ r. r.actor) l.states ++ (map (λ r. r.actor) l.sent ++ (pair_names l.created ++ pair_names l.released))

-- no row counts 0
pub record CountFromOne (l : Ledger) : Type 0 where
  pub sent : AllByRecursion (λ r. 0 < r.count) l.sent
  pub created : AllByRecursion (λ r. 0 < r.count) l.created
  pub released : AllByRecursion (λ r. 0 < r.count) l.released

-- the rows of each kind rise
pub record RowsRise (l : Ledger) : Type 0 where
  pub states : IsRising (λ r s. IsActorBelow r.actor s.actor) l.states
  pub sent : IsRising (λ r s. IsActorBelow r.actor s.actor) l.sent
  pub created : IsRising (λ r s. IsPairBelow r.owner r.target s.owner s.target) l.created
  pub released : IsRising (λ r s. IsPairBelow r.owner r.target s.owner s.target) l.released

-- what the types of a bulletin's and an entry's rows keep
abbrev pub IsInOrder : Ledger → Type 0
IsInOrder l = RowsRise l × CountFromOne l
