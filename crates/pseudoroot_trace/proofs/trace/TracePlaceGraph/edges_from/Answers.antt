use Rattle.pseudoroot_trace.proofs.GraphLemmas.{are-from}
use Rattle.pseudoroot_trace.proofs.trace.TracePlaceGraph.edges_from.Goals as goal

pub returns : goal.returns
returns c =
    rw (← c.self.view_is) (are-from c.self.inside.graph.now c.place_count-places.ensures.placed c.args.place c.positive_from.result.now c.positive_from.ensures)
