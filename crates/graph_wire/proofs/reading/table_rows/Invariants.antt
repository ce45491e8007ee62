use Rattle.std.proofs.Common.{◌≡◌, ◌-◌, false, None}
use Rattle.std.specs.List.{AllByRecursion}
use Rattle.wire_grammar.specs.Fields.{rows_at}
use Rattle.wire_grammar.specs.Reading.{table_row}
use Rattle.graph_wire.specs.Gives.{with_front}
use Rattle.graph_wire.specs.Marks.{actors_of}
use Rattle.graph_wire.proofs.Loops.{actor_key, ActorsReady}
use Rattle.graph_wire.proofs.reading.table_rows.Given as goal

abbrev pub invariant-loop-i : goal.invariant-loop-i
invariant-loop-i l = record {
  read : with_front (actors_of l.table.items) (rows_at actor_key table_row (l.count - l.i) l.last l.own) ≡ rows_at actor_key table_row l.count None l.fn.cursor;
  ready : ActorsReady l.last (actors_of l.table.items);
  unmarked : AllByRecursion (λ e. e.named ≡ false) l.table.items;
}
