use Rattle.std.proofs.Common.{◌≤◌, subst, sym}
use Rattle.shadow_table.specs.declared.table.Shadow.{Shadow}
use Rattle.shadow_graph.proofs.KeptLemmas.{small-kept}
use Rattle.shadow_graph.proofs.graph.ShadowGraph.seen_shadow.Goals as goal

pub returns-clause-received : goal.returns-clause-received
returns-clause-received c =
    let g = c.self.inside in
    let small = (small-kept g.shadows g.edges g.log g.finals g.lost g.cut c.self.invariant).received c.args.actor in
    subst (λ (s : Shadow). s.received ≤ 4611686018427387904) (sym c.shadow_of-shadow.ensures) small

pub returns-clause-told : goal.returns-clause-told
returns-clause-told c =
    let g = c.self.inside in
    let small = (small-kept g.shadows g.edges g.log g.finals g.lost g.cut c.self.invariant).told c.args.actor in
    subst (λ (s : Shadow). s.told ≤ 4611686018427387904) (sym c.shadow_of-shadow.ensures) small

pub returns-clause-admitted : goal.returns-clause-admitted
returns-clause-admitted c =
    let g = c.self.inside in
    let small = (small-kept g.shadows g.edges g.log g.finals g.lost g.cut c.self.invariant).admitted c.args.actor in
    subst (λ (s : Shadow). s.admitted ≤ 4611686018427387904) (sym c.shadow_of-shadow.ensures) small
