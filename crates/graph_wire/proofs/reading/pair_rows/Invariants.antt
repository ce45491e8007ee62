use Rattle.std.proofs.Common.{◌≡◌, ◌-◌, None}
use Rattle.wire_grammar.specs.Fields.{rows_at}
use Rattle.wire_grammar.specs.Named.{pair_names}
use Rattle.wire_grammar.specs.Reading.{pair_row}
use Rattle.graph_wire.specs.Gives.{with_front}
use Rattle.graph_wire.specs.Marks.{actors_of, Marks}
use Rattle.graph_wire.proofs.Loops.{PairsReady, pair_key}
use Rattle.graph_wire.proofs.reading.pair_rows.Given as goal

abbrev pub invariant-loop-i : goal.invariant-loop-i
invariant-loop-i l = record {
  read : with_front l.rows (rows_at pair_key (pair_row l.wide (actors_of l.fn.table)) (l.count - l.i) l.last l.own) ≡ rows_at pair_key (pair_row l.wide (actors_of l.fn.table)) l.count None l.fn.cursor;
  ready : PairsReady l.last l.rows;
  marks : Marks (pair_names l.rows) l.fn.table l.table;
}
