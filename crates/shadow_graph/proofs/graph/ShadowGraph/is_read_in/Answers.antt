use Rattle.std.proofs.Common.{◌≡◌, length, subst}
use Rattle.shadow_graph.proofs.SameLemmas.{edges-read, read-by-number}
use Rattle.shadow_graph.specs.Graph.{Graph}
use Rattle.shadow_graph.proofs.graph.ShadowGraph.is_read_in.Goals as goal

pub returns-then-actors_agree-clause-read : goal.returns-then-actors_agree-clause-read
returns-then-actors_agree-clause-read c =
    let g = c.args.self.now in
    let h = c.args.other.now in
    let long = subst (λ (x : Graph). length x.edges.edges ≡ length x.edges.pairs) c.self.view_is c.edge_count-pairs.ensures.long in
    let placed = c.place_count-places.ensures.placed in (
      (λ t. read-by-number g h placed long (c.actors_agree.ensures.0 c.if-actors_agree.true) (c.edges_agree.ensures.0 t)),
      (λ read. c.edges_agree.ensures.1 (edges-read g h placed long read)),
    )
