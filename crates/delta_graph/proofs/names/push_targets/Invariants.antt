use Rattle.std.proofs.Common.{◌≡◌, ◌++◌, map, take}
use Rattle.delta_graph.proofs.names.push_targets.Given as goal

abbrev pub invariant-loop-row : goal.invariant-loop-row
invariant-loop-row l = l.names.items ≡ l.fn.names.items ++ map (λ r. r.target) (take l.row-index l.rows)
