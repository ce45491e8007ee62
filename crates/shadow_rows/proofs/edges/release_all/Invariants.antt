use Rattle.std.proofs.Common.{take}
use Rattle.history_model.specs.Ledgers.{pair_total}
use Rattle.edge_table.specs.Table.{with_released}
use Rattle.shadow_rows.specs.Pairs.{ChangesEdges}
use Rattle.shadow_rows.proofs.edges.release_all.Given as goal

abbrev pub invariant-loop-i : goal.invariant-loop-i
invariant-loop-i l = ChangesEdges l.initial.edges l.edges (λ b a e. with_released (pair_total b a (take l.i l.rows)) e)
