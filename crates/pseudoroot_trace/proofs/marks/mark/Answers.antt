use Rattle.std.proofs.Common.{subst}
use Rattle.place_marks.specs.Marks.{IsMarking}
use Rattle.shadow_table.specs.Shadows.{is_named}
use Rattle.shadow_graph.specs.Graph.{Graph}
use Rattle.pseudoroot_trace.proofs.NamedLemmas.{named-reached}
use Rattle.pseudoroot_trace.proofs.SweepLemmas.{traced-sweep}
use Rattle.pseudoroot_trace.specs.Trace.{place_graph}
use Rattle.pseudoroot_trace.proofs.marks.mark.Goals as goal

pub returns-clause-sweep : goal.returns-clause-sweep
returns-clause-sweep c =
    let g = c.args.graph.now in
    let placed = c.name_marked.ensures.placed in
    let marking = subst (λ (x : Graph). IsMarking (place_graph x) c.mark.new.marks) c.new.ensures c.mark.ensures.marked in
    traced-sweep g (is_named c.name_marked.new.actors.keys) placed (named-reached g placed c.mark.new.marks c.name_marked.new.actors.keys marking c.name_marked.ensures.named)
