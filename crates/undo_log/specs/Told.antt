-- What contracts see of the log of a cluster: for each of the 16 nodes that there may be, rows that count what it told and
-- what others admitted from it.
use Rattle.std.specs.Prelude.{◌≡◌, ◌≢◌, ℕ, List, [], Option, slice_index_or}
use Rattle.crgc_ids.specs.Actor.{Actor}
use Rattle.crgc_ids.specs.declared.rising.ActorCount.{ActorCount}
use Rattle.crgc_ids.specs.declared.rising.PairCount.{PairCount}
use Rattle.undo_log.specs.Noted.{NotesMore}
use Rattle.undo_log.specs.Totals.{admitted_total, told_total}
use Rattle.undo_log.specs.declared.corrections.Correction.{Correction}
use Rattle.undo_log.specs.declared.corrections.Side.{Side}

-- the rows of a node
abbrev pub rows_of : List (List Correction) → ℕ → List Correction
rows_of log node = slice_index_or log node []

-- how often the node told the messages to the target, or the pairs of the owner and the target
abbrev pub told_by : List (List Correction) → ℕ → Option Actor → Actor → ℕ
told_by log node owner target = told_total owner target (rows_of log node)

-- how often others admitted these from the node
abbrev pub admitted_from : List (List Correction) → ℕ → Option Actor → Actor → ℕ
admitted_from log node owner target = admitted_total owner target (rows_of log node)

-- what the rows count is noted of the node, and nothing of any other one
pub record Notes (old new : List (List Correction)) (node : ℕ) (side : Side) (messages : List ActorCount) (pairs : List PairCount) : Type 0 where
  pub here : NotesMore (rows_of old node) (rows_of new node) side messages pairs
  pub others : (n : ℕ) → n ≢ node → rows_of new n ≡ rows_of old n
