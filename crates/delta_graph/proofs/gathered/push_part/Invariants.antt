use Rattle.std.proofs.Common.{◌≡◌, ◌++◌, take}
use Rattle.std.specs.List.{filter}
use Rattle.delta_graph.specs.Sums.{is_of_part}
use Rattle.delta_graph.proofs.gathered.push_part.Given as goal

abbrev pub invariant-loop-row : goal.invariant-loop-row
invariant-loop-row l = l.rows.items ≡ l.fn.rows.items ++ filter (is_of_part l.to_itself) (take l.row-index l.more)
