use Rattle.std.proofs.Common.{◌≡◌, take}
use Rattle.std.specs.List.{filter}
use Rattle.pseudoroot_trace.specs.Marked.{is_marked}
use Rattle.collector.specs.Sweeping.{falls}
use Rattle.collector.proofs.rounds.find_unmarked.Given as goal

abbrev pub invariant-loop-place : goal.invariant-loop-place
invariant-loop-place l =
    l.found.items ≡ filter (falls l.graph (is_marked l.marks) l.node l.stopped) (take l.place l.graph.shadows.names)
