use Rattle.std.proofs.Common.{◌≡◌, ◌++◌, take}
use Rattle.std.specs.List.{AllByRecursion}
use Rattle.wire_grammar.specs.Named.{state_names}
use Rattle.graph_wire.proofs.names.push_states.Given as goal
use Rattle.crgc_ids.specs.Actor.{IsActor}

abbrev pub invariant-loop-row : goal.invariant-loop-row
invariant-loop-row l = record {
  names : l.names.items ≡ l.fn.names.items ++ state_names (take l.row-index l.rows);
  actors : AllByRecursion IsActor (state_names (take l.row-index l.rows));
}
