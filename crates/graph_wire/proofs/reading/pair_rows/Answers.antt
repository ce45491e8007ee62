use Rattle.std.proofs.Common.{[], ◌∷◌, None}
use Rattle.std.proofs.lemmas.Result.{err_from_is_err_and}
use Rattle.crgc_ids.specs.declared.rising.PairCount.{PairCount}
use Rattle.wire_grammar.specs.Fields.{rows_at}
use Rattle.wire_grammar.specs.Reading.{pair_row}
use Rattle.graph_wire.specs.Marks.{actors_of}
use Rattle.graph_wire.proofs.Loops.{ends_over, goes_on_over, is_done, pair_key, pairs-push, pairs-rise}
use Rattle.graph_wire.proofs.Marks.{Marks-push}
use Rattle.graph_wire.proofs.reading.pair_rows.Goals as goal

pub returns-in_err-row-clause-gives : goal.returns-in_err-row-clause-gives
returns-in_err-row-clause-gives c =
    let p = err_from_is_err_and c.from_residual-in_err-row.result c.from_residual-in_err-row.ensures.1 in
    rw (p.1, p.2) (ends_over pair_key (pair_row c.args.wide) (actors_of c.loop-i.table) (actors_of c.args.table.now) c.loop-i.invariant.marks.actors c.loop-i.rows c.args.count c.loop-i.i c.loop-i.last c.loop-i.own (rows_at pair_key (pair_row c.args.wide (actors_of c.args.table.now)) c.args.count None c.args.cursor.now) c.in_err-row.field-0.0 c.loop-i-test.true c.in_err-row.ensures.gives c.loop-i.invariant.read)

pub push-requires-clause-rising : goal.push-requires-clause-rising
push-requires-clause-rising c = pairs-rise c.loop-i.last c.loop-i.rows c.in_ok-row.row c.loop-i.invariant.ready c.in_ok-row.ensures.above

pub loop-i-preserved : goal.loop-i-preserved
loop-i-preserved c =
    let pushed = c.in_ok-push.ensures.ok in
    record {
      read = rw pushed (goes_on_over pair_key (pair_row c.args.wide) (actors_of c.loop-i.table) (actors_of c.args.table.now) c.loop-i.invariant.marks.actors c.loop-i.rows c.args.count c.loop-i.i c.loop-i.last c.loop-i.own (rows_at pair_key (pair_row c.args.wide (actors_of c.args.table.now)) c.args.count None c.args.cursor.now) c.in_ok-row.row c.pair_row.new.cursor c.loop-i-test.true c.in_ok-row.ensures.gives c.loop-i.invariant.read);
      ready = rw pushed (pairs-push c.loop-i.last c.loop-i.rows c.in_ok-row.row c.loop-i.invariant.ready c.in_ok-row.ensures.above);
      marks = rw pushed (Marks-push (λ (r : PairCount). r.owner ∷ r.target ∷ []) c.loop-i.rows c.in_ok-row.row c.args.table.now c.loop-i.table c.pair_row.new.table c.loop-i.invariant.marks c.in_ok-row.ensures.marks);
    }

pub returns-clause-gives : goal.returns-clause-gives
returns-clause-gives c = is_done pair_key (pair_row c.args.wide (actors_of c.args.table.now)) c.loop-i.rows c.args.count c.loop-i.i c.loop-i.last c.loop-i.own (rows_at pair_key (pair_row c.args.wide (actors_of c.args.table.now)) c.args.count None c.args.cursor.now) c.loop-i-test.false c.loop-i.invariant.read
