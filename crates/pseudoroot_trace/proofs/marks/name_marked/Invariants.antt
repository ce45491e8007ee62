use Rattle.std.proofs.Common.{◌+◌, ◌≤◌, length}
use Rattle.indexmap.specs.IndexSet.{index_set_len, spare}
use Rattle.pseudoroot_trace.specs.Marked.{AreNamedBelow}
use Rattle.pseudoroot_trace.proofs.marks.name_marked.Given as goal

abbrev pub invariant-loop-place : goal.invariant-loop-place
invariant-loop-place l =
    AreNamedBelow l.graph l.marks l.place l.actors.keys
    × (length l.graph.shadows.names ≤ l.place + spare l.actors)
    × (index_set_len l.fn.actors + spare l.fn.actors ≤ index_set_len l.actors + spare l.actors)
