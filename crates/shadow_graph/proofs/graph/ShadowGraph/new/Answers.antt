use Rattle.std.proofs.Common.{◌≤◌, ◌∙◌, ap, subst, sym}
use Rattle.edge_table.specs.Table.{Edges}
use Rattle.shadow_graph.proofs.EmptyLemmas.{nothing-folded, nothing-kept}
use Rattle.shadow_graph.proofs.graph.ShadowGraph.new.Goals as goal

pub returns-clause-stands : goal.returns-clause-stands
returns-clause-stands c = λ cl same.
    nothing-folded cl _ (subst (λ n. n ≤ 16) (sym c.new-finals.ensures.nodes) c.requires.in_range) (c.new-finals.ensures.nodes ∙ sym same) c.new-finals.ensures.links c.zero.ensures c.new-2.ensures (ap (λ (e : Edges). e.pairs) c.new-3.ensures) (ap (λ (e : Edges). e.edges) c.new-3.ensures) c.new-4.ensures

pub invariant_of-result : goal.invariant_of-result
invariant_of-result c =
    nothing-kept c.new-2.result c.new-3.result c.new-4.result c.new-finals.result c.lost.result c.zero.result c.new-2.ensures c.new-3.ensures c.new-4.ensures (subst (λ n. n ≤ 16) (sym c.new-finals.ensures.nodes) c.requires.in_range) c.lost.ensures c.zero.ensures
