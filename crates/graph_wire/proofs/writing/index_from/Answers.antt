use Rattle.std.proofs.Common.{sym, arith}
use Rattle.std.proofs.lemmas.Option.{slice_get_within}
use Rattle.wire_grammar.proofs.Tables.{index_of-slice_get}
use Rattle.graph_wire.proofs.writing.index_from.Goals as goal

pub returns-then-stands_at-clause-value : goal.returns-then-stands_at-clause-value
returns-then-stands_at-clause-value c = sym (index_of-slice_get c.args.table.now c.guess-expected.result c.args.actor c.requires (c.stands_at.ensures.0 c.if-stands_at.true))

pub returns-then-stands_at-clause-bound : goal.returns-then-stands_at-clause-bound
returns-then-stands_at-clause-bound c =
    let within = slice_get_within c.args.table.now c.guess-expected.result c.args.actor (c.stands_at.ensures.0 c.if-stands_at.true) in
    omega arith

pub returns-then-stands_at-2-clause-value : goal.returns-then-stands_at-2-clause-value
returns-then-stands_at-2-clause-value c = sym (index_of-slice_get c.args.table.now c.saturating_add-next.result c.args.actor c.requires (c.stands_at-2.ensures.0 c.if-stands_at-2.true))

pub returns-then-stands_at-2-clause-bound : goal.returns-then-stands_at-2-clause-bound
returns-then-stands_at-2-clause-bound c =
    let within = slice_get_within c.args.table.now c.saturating_add-next.result c.args.actor (c.stands_at-2.ensures.0 c.if-stands_at-2.true) in
    omega arith
