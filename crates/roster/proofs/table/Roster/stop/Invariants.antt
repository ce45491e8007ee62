use Rattle.std.proofs.Common.{take}
use Rattle.roster.specs.Table.{Stops}
use Rattle.roster.proofs.table.Roster.stop.Given as goal

abbrev pub invariant-loop-stop : goal.invariant-loop-stop
invariant-loop-stop l = Stops l.fn.self l.self (take l.stop-index l.stops)
