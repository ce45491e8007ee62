-- What is noted of a node: the rows that are told, or that others admitted, and what they change.
use Rattle.std.specs.Prelude.{◌≡◌, ◌+◌, ◌++◌, ℕ, List, Option, Some, None, map}
use Rattle.crgc_ids.specs.Actor.{Actor}
use Rattle.crgc_ids.specs.declared.rising.ActorCount.{ActorCount}
use Rattle.crgc_ids.specs.declared.rising.PairCount.{PairCount}
use Rattle.row_sums.specs.Totals.{actor_total, pair_total}
use Rattle.undo_log.specs.Totals.{admitted_total, told_total}
use Rattle.undo_log.specs.declared.corrections.Correction.{Correction}
use Rattle.undo_log.specs.declared.corrections.Side.{Side}
use Rattle.undo_log.specs.declared.corrections.Side.TheVariants.{Admitted, Told}

-- how often rows count the messages to the target, or the pairs of the owner and the target
abbrev pub noted_count : Option Actor → Actor → List ActorCount → List PairCount → ℕ
noted_count None target messages pairs = actor_total target messages
noted_count (Some owner) target messages pairs = pair_total owner target pairs

-- the row that notes a count
abbrev pub row_on : Side → Option Actor → Actor → ℕ → Correction
row_on Told owner target count = record { owner = owner; target = target; told = count; admitted = 0 }
row_on Admitted owner target count = record { owner = owner; target = target; told = 0; admitted = count }

abbrev pub message_rows : Side → List ActorCount → List Correction
message_rows side messages = map (λ r. row_on side None r.actor r.count) messages

abbrev pub pair_rows : Side → List PairCount → List Correction
pair_rows side pairs = map (λ r. row_on side (Some r.owner) r.target r.count) pairs

-- what is noted on one side
pub record SideRows : Type 0 where
  pub messages : List ActorCount
  pub pairs : List PairCount

-- the rows that count as much as those of both sides
abbrev pub rows_noted : SideRows → SideRows → List Correction
rows_noted told admitted =
    (message_rows Told told.messages ++ pair_rows Told told.pairs)
    ++ (message_rows Admitted admitted.messages ++ pair_rows Admitted admitted.pairs)

-- how often rows count something on this side, and on the other one
abbrev pub side_total : Side → Option Actor → Actor → List Correction → ℕ
side_total Told = told_total
side_total Admitted = admitted_total

abbrev pub other_total : Side → Option Actor → Actor → List Correction → ℕ
other_total Told = admitted_total
other_total Admitted = told_total

-- each thing is counted so much more often on this side, and as often as before on the other
pub record NotesMore (old new : List Correction) (side : Side) (messages : List ActorCount) (pairs : List PairCount) : Type 0 where
  pub noted : (owner : Option Actor) (target : Actor) → side_total side owner target new
      ≡ side_total side owner target old + noted_count owner target messages pairs
  pub others : (owner : Option Actor) (target : Actor) → other_total side owner target new ≡ other_total side owner target old
