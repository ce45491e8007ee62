use Rattle.std.proofs.Common.{◌≡◌, ◌++◌, take}
use Rattle.undo_log.specs.Noted.{pair_rows}
use Rattle.undo_log.proofs.node_log.push_pairs.Given as goal

abbrev pub invariant-loop-pair : goal.invariant-loop-pair
invariant-loop-pair l = l.rows.items ≡ l.initial.rows.items ++ pair_rows l.side (take l.pair-index l.pairs)
