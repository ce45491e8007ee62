use Rattle.pseudoroot_trace.proofs.GraphLemmas.{are-to}
use Rattle.pseudoroot_trace.proofs.trace.TracePlaceGraph.edges_to.Goals as goal

pub returns : goal.returns
returns c =
    rw (← c.self.view_is) (are-to c.self.inside.graph.now c.place_count-places.ensures.placed c.args.place c.positive_to.result.now c.positive_to.ensures)
