use Rattle.std.proofs.Common.{◌≡◌, count_by, take}
use Rattle.pseudoroot_trace.specs.Marked.{is_marked}
use Rattle.workload_marks.proofs.marking.marked_count.Given as goal

abbrev pub invariant-loop-place : goal.invariant-loop-place
invariant-loop-place l = l.count ≡ count_by (is_marked l.marks) (take l.place l.graph.shadows.names)
