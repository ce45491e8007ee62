-- Reading a bulletin from left to right, with the first fault that is met.
use Rattle.std.specs.Prelude.{ℕ, ◌+◌, ◌%◌, ◌==◌, ◌&&◌, ◌||◌, Bool, true, false, List, [], ◌∷◌, Option, Some, None, Result, Ok, nat_lt, not, slice_get, if◌then◌else◌}
use Rattle.std.specs.List.{list_any}
use Rattle.crgc_bytes.specs.Place.{Place}
use Rattle.crgc_ids.specs.Actor.{Actor, is_actor_below, same_actor}
use Rattle.crgc_ids.specs.declared.rising.ActorCount.{ActorCount}
use Rattle.crgc_ids.specs.declared.rising.PairCount.{PairCount}
use Rattle.history_model.specs.declared.records.Bulletin.{Bulletin}
use Rattle.history_model.specs.declared.records.Bulletin.TheVariants as bulletins
use Rattle.history_model.specs.declared.records.Delta.{Delta}
use Rattle.history_model.specs.declared.records.StateRow.{StateRow}
use Rattle.history_model.specs.declared.records.Window.{Window}
use Rattle.wire_grammar.specs.declared.fault.WireFault.{WireFault}
use Rattle.wire_grammar.specs.declared.fault.WireKind.TheVariants.{Magic, Kind, Node, Order, Index, Zero, Flags, Unused, Narrow}
use Rattle.wire_grammar.specs.Fields.{◌>>=◌, Reader, both, checked, fault, is_above, made, number_at, rows_at}
use Rattle.wire_grammar.specs.Named.{delta_names, window_names}
use Rattle.wire_grammar.specs.Spelling.{index_len, magic}
use Rattle.crgc_ids.specs.declared.limits.TheConstants.{MOST_ACTORS}

abbrev pub node_at : Reader ℕ
node_at p = checked Node (λ n. nat_lt n 16) (number_at 1) p

abbrev pub serial_at : Reader ℕ
serial_at p = checked Node (λ n. nat_lt n MOST_ACTORS) (number_at 4) p

abbrev pub actor_at : Reader Actor
actor_at p = made (λ x. record { node = x.0; serial = x.1 }) (both node_at (λ _. serial_at)) p

-- a count of k bytes, and as many rows
abbrev pub section_at : {X K : Type 0} → ℕ → (X → K) → (Option K → Reader X) → Reader (List X)
section_at k key row p = do
  n ← number_at k p
  rows_at key row n.0 None n.1

abbrev pub table_row : Option Actor → Reader Actor
table_row last p = checked Order (is_above is_actor_below last) actor_at p

-- the number of the table's actors
abbrev pub table_len_at : Bool → Reader ℕ
table_len_at wide p = checked Narrow (λ n. not wide || nat_lt 65535 n) (number_at (index_len wide)) p

unfoldable pub table_at : Bool → Reader (List Actor)
table_at wide p = do
  n ← table_len_at wide p
  rows_at (λ a. a) table_row n.0 None n.1

-- the table's actor at an index
abbrev pub actor_of : ℕ → Option Actor → Place → Result (Actor × Place) WireFault
actor_of offset None p = fault Index offset
actor_of offset (Some a) p = Ok (a, p)

unfoldable pub index_at : Bool → List Actor → Reader Actor
index_at wide table p = do
  n ← number_at (index_len wide) p
  actor_of p.offset (slice_get table n.0) n.1

abbrev pub flags_at : Reader ℕ
flags_at p = checked Flags (λ n. nat_lt n 4) (number_at 1) p

abbrev pub count_at : Reader ℕ
count_at p = checked Zero (λ n. nat_lt 0 n) (number_at 4) p

-- the key of a row of states or of actor counts, above the one before it
abbrev pub key_at : Bool → List Actor → Option Actor → Reader Actor
key_at wide table last p = checked Order (is_above is_actor_below last) (index_at wide table) p

-- pairs of an owner and a target are ordered by owner, then by target
abbrev pub is_pair_below : Actor × Actor → Actor × Actor → Bool
is_pair_below x y = is_actor_below x.0 y.0 || (same_actor x.0 y.0 && is_actor_below x.1 y.1)

abbrev pub pair_key_at : Bool → List Actor → Option (Actor × Actor) → Reader (Actor × Actor)
pair_key_at wide table last p =
    checked Order (is_above is_pair_below last) (both (index_at wide table) (λ _. index_at wide table)) p

unfoldable pub state_row : Bool → List Actor → Option Actor → Reader StateRow
state_row wide table last p =
    made
    (λ x. record { actor = x.0; received = x.1.0; busy = x.1.1 % 2 == 1; root = nat_lt 1 x.1.1 })
    (both (key_at wide table last) (λ _. both (number_at 4) (λ _. flags_at)))
    p

unfoldable pub count_row : Bool → List Actor → Option Actor → Reader ActorCount
count_row wide table last p =
    made (λ x. record { actor = x.0; count = x.1 }) (both (key_at wide table last) (λ _. count_at)) p

unfoldable pub pair_row : Bool → List Actor → Option (Actor × Actor) → Reader PairCount
pair_row wide table last p =
    made (λ x. record { owner = x.0.0; target = x.0.1; count = x.1 }) (both (pair_key_at wide table last) (λ _. count_at)) p

unfoldable pub states_at : Bool → List Actor → Reader (List StateRow)
states_at wide table p = section_at (index_len wide) (λ r. r.actor) (state_row wide table) p

unfoldable pub counts_at : Bool → List Actor → Reader (List ActorCount)
counts_at wide table p = section_at (index_len wide) (λ r. r.actor) (count_row wide table) p

unfoldable pub pairs_at : Bool → List Actor → Reader (List PairCount)
pairs_at wide table p = section_at 4 (λ r. (r.owner, r.target)) (pair_row wide table) p

-- where the first actor of a table stands that is not among the names; the table begins at the offset
unfoldable pub unnamed : List Actor → ℕ → List Actor → Option ℕ
unnamed names offset [] = None
unnamed names offset (a ∷ table) = if list_any (same_actor a) names then unnamed names (offset + 5) table else Some offset

-- no fault where no actor is unnamed
abbrev pub all_named : {X : Type 0} → Option ℕ → X → Result X WireFault
all_named None x = Ok x
all_named (Some offset) x = fault Unused offset

unfoldable pub delta_at : Bool → Reader Delta
delta_at wide p = do
  n ← node_at p
  t ← table_at wide n.1
  states ← states_at wide t.0 t.1
  sent ← counts_at wide t.0 states.1
  created ← pairs_at wide t.0 sent.1
  released ← pairs_at wide t.0 created.1
  let d : Delta = record { node = n.0; states = states.0; sent = sent.0; created = created.0; released = released.0 } in
      all_named (unnamed (delta_names d) (n.1.offset + index_len wide) t.0) (d, released.1)

-- the two nodes of a link: the one at which messages were admitted, and another, from which they came
abbrev pub link_at : Reader (ℕ × ℕ)
link_at p = both node_at (λ n. checked Node (λ m. not (m == n)) node_at) p

unfoldable pub window_at : Bool → Reader Window
window_at wide p = do
  n ← link_at p
  t ← table_at wide n.1
  messages ← counts_at wide t.0 t.1
  carried ← pairs_at wide t.0 messages.1
  let w : Window = record { at = n.0.0; from = n.0.1; messages = messages.0; carried = carried.0 } in
      all_named (unnamed (window_names w) (n.1.offset + index_len wide) t.0) (w, carried.1)

abbrev pub magic_at : Reader ℕ
magic_at p = checked Magic (λ n. (n == magic false) || (n == magic true)) (number_at 4) p

abbrev pub kind_at : Reader ℕ
kind_at p = checked Kind (λ n. nat_lt 0 n && nat_lt n 4) (number_at 1) p

-- what follows a kind
abbrev pub body_at : Bool → ℕ → Reader Bulletin
body_at wide kind p =
    if kind == 1 then made bulletins.Delta (delta_at wide) p
    else (if kind == 2 then made bulletins.Window (window_at wide) p else made bulletins.Final (window_at wide) p)

unfoldable pub bulletin_at : Reader Bulletin
bulletin_at p = do
  m ← magic_at p
  k ← kind_at m.1
  body_at (m.0 == magic true) k.0 k.1

-- the bulletin whose spelling begins the bytes, with the length of that spelling; else the first fault
unfoldable pub reading : List ℕ → Result (Bulletin × ℕ) WireFault
reading bytes = do
  b ← bulletin_at (record { offset = 0; rest = bytes })
  Ok (b.0, b.1.offset)
