use Rattle.std.proofs.Common.{length}
use Rattle.shadow_graph.proofs.SeenLemmas.{dropped-stands}
use Rattle.shadow_graph.proofs.graph.ShadowGraph.drop_actor.Goals as goal

pub returns-clause-stands : goal.returns-clause-stands
returns-clause-stands c =
    let g = c.self.inside in
    rw (← c.self.view_is) (λ cl f stands. dropped-stands cl f g.shadows c.drop_actor.new.self g.edges (length g.shadows.names) (length c.drop_actor.new.self.names) g.log g.finals g.cut c.args.actor c.drop_actor.ensures stands)
