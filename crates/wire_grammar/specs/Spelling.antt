-- The one spelling of each bulletin.
use Rattle.std.specs.Prelude.{ℕ, ◌+◌, Bool, List, ◌++◌, length, if◌then◌else◌}
use Rattle.std.specs.List.{flat_map}
use Rattle.byteorder.specs.Endian.{big_bytes}
use Rattle.crgc_ids.specs.Actor.{Actor}
use Rattle.crgc_ids.specs.declared.rising.ActorCount.{ActorCount}
use Rattle.crgc_ids.specs.declared.rising.PairCount.{PairCount}
use Rattle.history_model.specs.declared.records.Bulletin.{Bulletin}
use Rattle.history_model.specs.declared.records.Bulletin.TheVariants as bulletins
use Rattle.history_model.specs.declared.records.Delta.{Delta}
use Rattle.history_model.specs.declared.records.StateRow.{StateRow}
use Rattle.history_model.specs.declared.records.Window.{Window}
use Rattle.wire_grammar.specs.Named.{index_of, is_wide, names_of, table_of}

-- the bytes of an index, of the table's count, and of the counts of states and of actor counts
abbrev pub index_len : Bool → ℕ
index_len wide = if wide then 4 else 2

-- "CRG1" for the narrow form, "CRG2" for the wide one
abbrev pub magic : Bool → ℕ
magic wide = if wide then 1129465650 else 1129465649

-- the flags: 1 for busy, 2 for a root
abbrev pub flags : Bool → Bool → ℕ
flags busy root = (if busy then 1 else 0) + (if root then 2 else 0)

-- the number of rows in k bytes, and the rows
abbrev pub section_text : {X : Type 0} → ℕ → (X → List ℕ) → List X → List ℕ
section_text k row rows = big_bytes k (length rows) ++ flat_map row rows

abbrev pub actor_text : Actor → List ℕ
actor_text a = big_bytes 1 a.node ++ big_bytes 4 a.serial

abbrev pub index_text : Bool → List Actor → Actor → List ℕ
index_text wide table a = big_bytes (index_len wide) (index_of table a)

abbrev pub state_text : Bool → List Actor → StateRow → List ℕ
state_text wide table r = index_text wide table r.actor ++ (big_bytes 4 r.received ++ big_bytes 1 (flags r.busy r.root))

abbrev pub count_text : Bool → List Actor → ActorCount → List ℕ
count_text wide table r = index_text wide table r.actor ++ big_bytes 4 r.count

abbrev pub pair_text : Bool → List Actor → PairCount → List ℕ
pair_text wide table r = (index_text wide table r.owner ++ index_text wide table r.target) ++ big_bytes 4 r.count

abbrev pub table_text : Bool → List Actor → List ℕ
table_text wide table = section_text (index_len wide) actor_text table

abbrev pub states_text : Bool → List Actor → List StateRow → List ℕ
states_text wide table rows = section_text (index_len wide) (state_text wide table) rows

abbrev pub counts_text : Bool → List Actor → List ActorCount → List ℕ
counts_text wide table rows = section_text (index_len wide) (count_text wide table) rows

abbrev pub pairs_text : Bool → List Actor → List PairCount → List ℕ
pairs_text wide table rows = section_text 4 (pair_text wide table) rows

abbrev pub head_text : Bool → ℕ → List ℕ
head_text wide kind = big_bytes 4 (magic wide) ++ big_bytes 1 kind

unfoldable pub delta_text : Bool → List Actor → Delta → List ℕ
delta_text wide table d =
    big_bytes 1 d.node
    ++ (table_text wide table
    ++ (states_text wide table d.states
    ++ (counts_text wide table d.sent ++ (pairs_text wide table d.created ++ pairs_text wide table d.released))))

unfoldable pub window_text : Bool → List Actor → Window → List ℕ
window_text wide table w =
    (big_bytes 1 w.at ++ big_bytes 1 w.from)
    ++ (table_text wide table ++ (counts_text wide table w.messages ++ pairs_text wide table w.carried))

-- the bytes of a bulletin over a table, in one of the two forms
abbrev pub text_over : List Actor → Bulletin → List ℕ
text_over table (bulletins.Delta d) = head_text (is_wide table) 1 ++ delta_text (is_wide table) table d
text_over table (bulletins.Window w) = head_text (is_wide table) 2 ++ window_text (is_wide table) table w
text_over table (bulletins.Final w) = head_text (is_wide table) 3 ++ window_text (is_wide table) table w

-- the one spelling
unfoldable pub spelled : Bulletin → List ℕ
spelled b = text_over (table_of (names_of b)) b
