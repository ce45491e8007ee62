use Rattle.std.proofs.Common.{◌+◌, ◌≤◌, take}
use Rattle.crgc_ids.specs.Actor.{Actor}
use Rattle.row_sums.specs.Totals.{actor_total}
use Rattle.undo_log.proofs.side_log.have_room_for_counts.Given as goal

abbrev pub invariant-loop-row : goal.invariant-loop-row
invariant-loop-row l = (a : Actor) → actor_total a (take l.row-index l.rows) + l.room ≤ 4294967295
