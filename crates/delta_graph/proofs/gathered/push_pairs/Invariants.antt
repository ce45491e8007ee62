use Rattle.std.proofs.Common.{◌≡◌, ◌++◌, map, take}
use Rattle.delta_graph.proofs.gathered.push_pairs.Given as goal

abbrev pub invariant-loop-row : goal.invariant-loop-row
invariant-loop-row l = l.pairs.items ≡ l.fn.pairs.items ++ map (λ r. record { owner = l.owner; target = r.actor; count = r.count }) (take l.row-index l.rows)
