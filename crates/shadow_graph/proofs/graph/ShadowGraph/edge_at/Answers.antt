use Rattle.std.proofs.Common.{◌≡◌, ◌∙◌, SFits, ap, rules, subst, sym, w64}
use Rattle.edge_table.specs.Table.{edges_from, ends_from}
use Rattle.edge_table.specs.declared.table.Edge.{Edge}
use Rattle.shadow_graph.proofs.PlacedLemmas.{between-value, end-at, from-at, inside-ends}
use Rattle.shadow_graph.specs.Graph.{Graph}
use Rattle.shadow_rows.specs.Pairs.{edge_between}
use Rattle.shadow_graph.specs.Places.{actor_of}
use Rattle.shadow_graph.proofs.graph.ShadowGraph.edge_at.Goals as goal

-- the edge is one of those from the place
pub numbered-edge-requires : goal.numbered-edge-requires
numbered-edge-requires c =
    let x = c.args.self.now in
    let ns = edges_from x.edges.edges c.args.place in
    let ends = subst (λ (x : Graph). c.edges_from.result.now ≡ ends_from x.edges.edges c.args.place) c.self.view_is c.edges_from.ensures.ends in
    let inside = inside-ends (λ e. e.target) x.edges.edges ns c.edges_from.result.now ends c.args.index c.requires.index in
    (from-at x.edges.edges c.args.place c.args.index c.edges_from.result.now ends inside).0

pub returns-clause-value : goal.returns-clause-value
returns-clause-value c =
    let x = c.args.self.now in
    let ns = edges_from x.edges.edges c.args.place in
    let ends = subst (λ (x : Graph). c.edges_from.result.now ≡ ends_from x.edges.edges c.args.place) c.self.view_is c.edges_from.ensures.ends in
    let inside = inside-ends (λ e. e.target) x.edges.edges ns c.edges_from.result.now ends c.args.index c.requires.index in
    let there = from-at x.edges.edges c.args.place c.args.index c.edges_from.result.now ends inside in
    let here = ap (λ (e : Edge). e.owner) c.numbered-edge.ensures.edge ∙ there.1 in
    let fits : SFits w64 c.value.result = search rules in
    between-value x (actor_of x c.args.place) (actor_of x c.numbered-edge.result.target) c.numbered-edge.result c.value.result (ap (λ p. edge_between x.edges (actor_of x p) (actor_of x c.numbered-edge.result.target)) (sym here) ∙ c.numbered-edge.ensures.between) (c.value.ensures) fits

pub returns-clause-target : goal.returns-clause-target
returns-clause-target c =
    let x = c.args.self.now in
    let ns = edges_from x.edges.edges c.args.place in
    let ends = subst (λ (x : Graph). c.edges_from.result.now ≡ ends_from x.edges.edges c.args.place) c.self.view_is c.edges_from.ensures.ends in
    let inside = inside-ends (λ e. e.target) x.edges.edges ns c.edges_from.result.now ends c.args.index c.requires.index in
    ap (λ (e : Edge). e.target) c.numbered-edge.ensures.edge ∙ sym (end-at (λ e. e.target) x.edges.edges ns c.edges_from.result.now ends c.args.index inside)
