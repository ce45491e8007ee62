use Rattle.std.proofs.Common.{◌≡◌, ◌++◌, take}
use Rattle.std.specs.List.{AllByRecursion}
use Rattle.graph_wire.specs.Pushed.{target_names}
use Rattle.graph_wire.proofs.names.push_targets.Given as goal
use Rattle.crgc_ids.specs.Actor.{IsActor}

abbrev pub invariant-loop-row : goal.invariant-loop-row
invariant-loop-row l = record {
  names : l.names.items ≡ l.fn.names.items ++ target_names (take l.row-index l.rows);
  actors : AllByRecursion IsActor (target_names (take l.row-index l.rows));
}
