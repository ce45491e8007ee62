use Rattle.pseudoroot_trace.proofs.GraphLemmas.{graph-whole}
use Rattle.pseudoroot_trace.proofs.trace.TracePlaceGraph.place_count.Goals as goal

pub returns-clause-whole : goal.returns-clause-whole
returns-clause-whole c = rw (← c.self.view_is) (graph-whole c.self.inside.graph.now c.place_count.ensures.placed)
