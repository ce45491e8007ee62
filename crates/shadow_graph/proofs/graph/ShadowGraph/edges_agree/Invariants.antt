use Rattle.std.proofs.Common.{◌<◌, ℕ}
use Rattle.shadow_graph.specs.Same.{AgreeAlong}
use Rattle.shadow_rows.specs.Tabled.{pair_at}
use Rattle.shadow_graph.proofs.graph.ShadowGraph.edges_agree.Given as goal

abbrev pub invariant-loop-number : goal.invariant-loop-number
invariant-loop-number l = (n : ℕ) → n < l.number → AgreeAlong l.self l.other (pair_at l.self.edges.pairs n).0 (pair_at l.self.edges.pairs n).1
