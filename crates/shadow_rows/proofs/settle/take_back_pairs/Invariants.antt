use Rattle.std.proofs.Common.{take}
use Rattle.history_model.specs.Ledgers.{pair_total}
use Rattle.edge_table.specs.Table.{with_released}
use Rattle.shadow_rows.specs.Pairs.{ChangesEdges}
use Rattle.shadow_rows.proofs.settle.take_back_pairs.Given as goal

abbrev pub invariant-loop-row : goal.invariant-loop-row
invariant-loop-row l = ChangesEdges l.initial.edges l.edges (λ b a e. with_released (pair_total b a (take l.row-index l.rows)) e)
