-- To whom messages went and which references were given up, as rows, and how the rows are kept.
use Rattle.std.specs.Prelude.{List, [], Option, Some, None}
use Rattle.std.specs.Global.{Box}
use Rattle.crgc_ids.specs.declared.rising.ActorCount.{ActorCount}
use Rattle.entry_records.specs.declared.ends.EndRows.{EndRows}

-- the rows of messages and of references given up
pub record EndLists : Type 0 where
  pub sent : List ActorCount
  pub released : List ActorCount

abbrev pub no_ends : EndLists
no_ends = record { sent = []; released = [] }

-- the rows that are kept: without a block there are none
abbrev pub lists_in : Option (Box EndRows) → EndLists
lists_in None = no_ends
lists_in (Some rows) = record { sent = rows.value.sent.items; released = rows.value.released.items }
