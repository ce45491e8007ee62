use Rattle.std.proofs.Common.{◌<◌, ap, length, subst, sym, ◌∙◌}
use Rattle.edge_table.specs.declared.table.Edge.{Edge}
use Rattle.shadow_graph.proofs.PlacedLemmas.{AreKeyed, IsEdge, name_at, numbered}
use Rattle.shadow_graph.specs.Graph.{Graph}
use Rattle.shadow_graph.proofs.graph.ShadowGraph.numbered.Goals as goal

pub returns : goal.returns
returns c =
    let g = c.self.inside in
    let keyed : AreKeyed g.shadows.names g.edges = record {
      actors = c.place_count-names.ensures.distinct;
      pairs = c.edge_count-pairs.ensures.distinct;
      long = c.edge_count-pairs.ensures.long;
      tabled = c.self.invariant.tabled;
    } in
    let inside = subst (λ (x : Graph). c.args.number < length x.edges.edges) (sym c.self.view_is) c.requires in
    let there = numbered g.shadows.names g.edges keyed c.args.number inside in
    let is : IsEdge g.shadows.names g.edges c.edge.result = subst (IsEdge g.shadows.names g.edges) (sym c.edge.ensures.edge) there.edge in
    rw (← c.self.view_is) (record {
      edge = c.edge.ensures.edge;
      owner = is.owner;
      target = is.target;
      pair = λ i. (
        (sym there.owner_is ∙ ap (λ (e : Edge). name_at g.shadows.names e.owner) (sym c.edge.ensures.edge)) i,
        (sym there.target_is ∙ ap (λ (e : Edge). name_at g.shadows.names e.target) (sym c.edge.ensures.edge)) i,
      );
      between = is.between;
    })
