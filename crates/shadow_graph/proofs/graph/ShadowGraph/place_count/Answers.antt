use Rattle.shadow_graph.proofs.PlacedLemmas.{AreKeyed, placed}
use Rattle.shadow_graph.proofs.graph.ShadowGraph.place_count.Goals as goal

pub returns-clause-placed : goal.returns-clause-placed
returns-clause-placed c =
    let g = c.self.inside in
    let keyed : AreKeyed g.shadows.names g.edges = record {
      actors = c.place_count.ensures.distinct;
      pairs = c.edge_count-pairs.ensures.distinct;
      long = c.edge_count-pairs.ensures.long;
      tabled = c.self.invariant.tabled;
    } in
    rw (← c.self.view_is) (placed _ g.edges.places keyed c.place_count.ensures.shadows)
