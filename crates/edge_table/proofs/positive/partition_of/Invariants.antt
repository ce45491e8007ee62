use Rattle.std.proofs.Common.{◌&&◌, take}
use Rattle.std.specs.List.{list_any}
use Rattle.std.specs.Prelude.{nat_eq}
use Rattle.edge_table.specs.Partition.{IsParted, numbers_in}
use Rattle.edge_table.specs.Table.{is_positive_at}
use Rattle.edge_table.proofs.positive.partition_of.Given as goal

abbrev pub invariant-loop-i : goal.invariant-loop-i
invariant-loop-i l = IsParted l.ends (λ n. is_positive_at l.edges.edges n && list_any (nat_eq n) (take l.i (numbers_in l.ends))) l.partition
