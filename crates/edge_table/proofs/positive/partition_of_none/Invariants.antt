use Rattle.std.proofs.Common.{false, take}
use Rattle.edge_table.specs.Partition.{IsParted}
use Rattle.edge_table.proofs.positive.partition_of_none.Given as goal

abbrev pub invariant-loop-i : goal.invariant-loop-i
invariant-loop-i l = IsParted (take l.i l.ends) (λ n. false) l.partition
