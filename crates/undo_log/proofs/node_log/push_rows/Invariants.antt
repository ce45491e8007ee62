use Rattle.std.proofs.Common.{◌≡◌, ◌++◌, take}
use Rattle.undo_log.specs.Noted.{message_rows}
use Rattle.undo_log.proofs.node_log.push_rows.Given as goal

abbrev pub invariant-loop-message : goal.invariant-loop-message
invariant-loop-message l = l.rows.items ≡ l.initial.rows.items ++ message_rows l.side (take l.message-index l.messages)
