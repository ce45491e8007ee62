use Rattle.std.proofs.Common.{◌≡◌, ◌-◌, None}
use Rattle.wire_grammar.specs.Fields.{rows_at}
use Rattle.wire_grammar.specs.Named.{state_names}
use Rattle.wire_grammar.specs.Reading.{state_row}
use Rattle.graph_wire.specs.Gives.{with_front}
use Rattle.graph_wire.specs.Marks.{actors_of, Marks}
use Rattle.graph_wire.proofs.Loops.{StatesReady, state_key}
use Rattle.graph_wire.proofs.reading.state_rows.Given as goal

abbrev pub invariant-loop-i : goal.invariant-loop-i
invariant-loop-i l = record {
  read : with_front l.rows (rows_at state_key (state_row l.wide (actors_of l.fn.table)) (l.count - l.i) l.last l.own) ≡ rows_at state_key (state_row l.wide (actors_of l.fn.table)) l.count None l.fn.cursor;
  ready : StatesReady l.last l.rows;
  marks : Marks (state_names l.rows) l.fn.table l.table;
}
