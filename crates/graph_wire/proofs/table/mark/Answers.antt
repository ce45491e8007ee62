use Rattle.std.proofs.Common.{sym, arith}
use Rattle.graph_wire.proofs.Marks.{actor-at, actor-past, Marks-one}
use Rattle.graph_wire.proofs.table.mark.Goals as goal

pub returns-then-index-table-clause-actor : goal.returns-then-index-table-clause-actor
returns-then-index-table-clause-actor c = sym (actor-past c.args.table.now c.args.index (omega arith))

pub returns-clause-actor : goal.returns-clause-actor
returns-clause-actor c = sym (actor-at c.args.table.now c.args.index c.index-table-index.result (omega arith))

pub returns-clause-marks : goal.returns-clause-marks
returns-clause-marks c = Marks-one c.args.table.now c.args.index _ (actor-at c.args.table.now c.args.index c.index-table-index.result (omega arith))
