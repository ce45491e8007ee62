use denote.Param.Send.{sendable}
use Rattle.std.proofs.Common.{subst}
use Rattle.std.proofs.Crossing.{crosses}
use Rattle.place_marks.specs.Marks.{IsMarking}
use Rattle.shadow_table.specs.Shadows.{is_named}
use Rattle.shadow_graph.specs.Graph.{Graph}
use Rattle.pseudoroot_trace.proofs.Crossing.{graph_sync}
use Rattle.pseudoroot_trace.proofs.NamedLemmas.{named-reached}
use Rattle.pseudoroot_trace.proofs.SweepLemmas.{traced-sweep}
use Rattle.pseudoroot_trace.specs.Trace.{place_graph}
use Rattle.pseudoroot_trace.proofs.marks.mark_rounds.Goals as goal

-- the graph may be read by several threads
pub mark_rounds-requires-sync-G : goal.mark_rounds-requires-sync-G
mark_rounds-requires-sync-G g c κs within = search (crosses, sendable, graph_sync) depth 60 fits 100000

pub returns-clause-sweep : goal.returns-clause-sweep
returns-clause-sweep g c =
    let graph = c.args.graph.now in
    let placed = c.name_marked.ensures.placed in
    let marking = subst (λ (x : Graph). IsMarking (place_graph x) c.mark_rounds.new.marks) c.new.ensures c.mark_rounds.ensures.marked in
    traced-sweep graph (is_named c.name_marked.new.actors.keys) placed (named-reached graph placed c.mark_rounds.new.marks c.name_marked.new.actors.keys marking c.name_marked.ensures.named)
