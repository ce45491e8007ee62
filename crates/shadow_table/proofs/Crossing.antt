-- A table of shadows may go to another thread.
use denote.Param.Send.{IsSend, sendable}
use Rattle.std.proofs.Crossing.{crosses}
use Rattle.shadow_table.specs.contracts.numbers.ActorNumbers as ActorNumbers
use Rattle.shadow_table.specs.contracts.table.ShadowTable as ShadowTable

numbers_send : IsSend ActorNumbers.the_row
numbers_send = search (crosses, sendable) depth 60 fits 100000

pub table_send : IsSend ShadowTable.the_row
table_send = search (crosses, sendable, numbers_send) depth 60 fits 100000
