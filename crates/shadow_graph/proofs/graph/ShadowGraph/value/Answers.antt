use Rattle.std.proofs.Common.{◌≡◌, ◌<◌, Bool, SFits, true, false, ap, cond, length, pos, refl, rules, subst, sym, to_z, w64, ◌∙◌}
use Rattle.std.proofs.lemmas.Int.{to_z-of_z}
use Rattle.edge_table.specs.Table.{no_edge}
use Rattle.edge_table.specs.declared.table.Edge.{Edge}
use Rattle.shadow_table.specs.Shadows.{shadow_at}
use Rattle.shadow_table.specs.declared.table.Shadow.{Shadow}
use Rattle.shadow_graph.proofs.PlacedLemmas.{name_at, shadow-there}
use Rattle.shadow_graph.specs.Graph.{Graph}
use Rattle.shadow_graph.proofs.graph.ShadowGraph.value.Goals as goal

nothing-left : (v : Bool) (e : Edge) → e.count ≡ pos 0 → pos 0 ≡ (cond v no_edge e).count
nothing-left true e none = refl
nothing-left false e none = sym none

pub returns-then-edge-eq0 : goal.returns-then-edge-eq0
returns-then-edge-eq0 c =
    let fits : SFits w64 c.args.edge.count = search rules in
    nothing-left _ c.args.edge (sym (to_z-of_z w64 c.args.edge.count fits) ∙ ap (to_z w64) c.if-edge-eq0.true)

pub returns-then-shadow : goal.returns-then-shadow
returns-then-shadow c =
    let g = c.self.inside in
    let inside = subst (λ (x : Graph). c.args.target < length x.shadows.names) (sym c.self.view_is) c.requires in
    let there = shadow-there g.shadows c.args.target c.place_count-names.ensures.distinct inside in
    let dropped : (shadow_at g.shadows (name_at g.shadows.names c.args.target)).dropped ≡ true = ap (λ (s : Shadow). s.dropped) (there ∙ sym c.shadow.ensures) ∙ c.if-shadow.true in
    rw (← c.self.view_is) (ap (λ (v : Bool). (cond v no_edge c.args.edge).count) (sym dropped))

pub returns : goal.returns
returns c =
    let g = c.self.inside in
    let inside = subst (λ (x : Graph). c.args.target < length x.shadows.names) (sym c.self.view_is) c.requires in
    let there = shadow-there g.shadows c.args.target c.place_count-names.ensures.distinct inside in
    let dropped : (shadow_at g.shadows (name_at g.shadows.names c.args.target)).dropped ≡ false = ap (λ (s : Shadow). s.dropped) (there ∙ sym c.shadow.ensures) ∙ c.if-shadow.false in
    let fits : SFits w64 c.args.edge.count = search rules in
    rw (← c.self.view_is) (to_z-of_z w64 c.args.edge.count fits ∙ ap (λ (v : Bool). (cond v no_edge c.args.edge).count) (sym dropped))
