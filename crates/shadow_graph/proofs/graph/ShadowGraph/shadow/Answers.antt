use Rattle.std.proofs.Common.{◌≡◌, ◌<◌, ◌≤◌, length, subst, sym, ◌∙◌}
use Rattle.shadow_table.specs.Shadows.{shadow_at}
use Rattle.shadow_table.specs.declared.table.Shadow.{Shadow}
use Rattle.shadow_graph.proofs.KeptLemmas.{small-kept}
use Rattle.shadow_graph.proofs.PlacedLemmas.{name_at, shadow-there}
use Rattle.shadow_graph.specs.Graph.{Graph}
use Rattle.shadow_graph.proofs.graph.ShadowGraph.shadow.Goals as goal

-- it is the shadow of the actor at the place
is : (c : goal.After-shadow) → shadow_at c.self.inside.shadows (name_at c.self.inside.shadows.names c.args.place) ≡ c.shadow.result
is c =
    let inside = subst (λ (x : Graph). c.args.place < length x.shadows.names) (sym c.self.view_is) c.requires in
    shadow-there c.self.inside.shadows c.args.place c.place_count-names.ensures.distinct inside ∙ sym c.shadow.ensures

pub returns-clause-value : goal.returns-clause-value
returns-clause-value c = rw (← c.self.view_is) (sym (is c))

pub returns-clause-told : goal.returns-clause-told
returns-clause-told c =
    let g = c.self.inside in
    let small = (small-kept g.shadows g.edges g.log g.finals g.lost g.cut c.self.invariant).told (name_at g.shadows.names c.args.place) in
    subst (λ (s : Shadow). s.told ≤ 4611686018427387904) (is c) small

pub returns-clause-admitted : goal.returns-clause-admitted
returns-clause-admitted c =
    let g = c.self.inside in
    let small = (small-kept g.shadows g.edges g.log g.finals g.lost g.cut c.self.invariant).admitted (name_at g.shadows.names c.args.place) in
    subst (λ (s : Shadow). s.admitted ≤ 4611686018427387904) (is c) small
