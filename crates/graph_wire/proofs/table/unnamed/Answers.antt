use Rattle.std.proofs.Common.{◌∙◌, sym}
use Rattle.graph_wire.proofs.Marks.{unnamed-end, unnamed-here, unnamed-later}
use Rattle.graph_wire.proofs.table.unnamed.Goals as goal

pub returns-then-not-entry : goal.returns-then-not-entry
returns-then-not-entry c = λ names tells. sym (unnamed-here names c.args.table.now c.args.first c.loop-i.i tells c.index-table-i.result c.loop-i-test.true c.index-table-i.is c.if-not-entry.true) ∙ c.loop-i.invariant names tells

pub loop-i-preserved : goal.loop-i-preserved
loop-i-preserved c = λ names tells. unnamed-later names c.args.table.now c.args.first c.loop-i.i tells c.index-table-i.result c.loop-i-test.true c.index-table-i.is c.if-not-entry.false ∙ c.loop-i.invariant names tells

pub returns : goal.returns
returns c = λ names tells. sym (unnamed-end names c.args.table.now c.args.first c.loop-i.i tells c.loop-i-test.false) ∙ c.loop-i.invariant names tells
