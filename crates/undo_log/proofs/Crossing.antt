-- A log may go to another thread.
use denote.Param.Send.{IsSend, sendable}
use Rattle.std.proofs.Crossing.{crosses}
use Rattle.undo_log.specs.contracts.undo_log.UndoLog as UndoLog

pub log_send : IsSend UndoLog.the_row
log_send = search (crosses, sendable) depth 60 fits 100000
