use Rattle.pseudoroot_trace.proofs.TracedLemmas.{traced-new}
use Rattle.pseudoroot_trace.proofs.traced.TracedGraph.new.Goals as goal

pub invariant_of-result : goal.invariant_of-result
invariant_of-result c = traced-new c.new.result c.new-2.result c.new-2.ensures
