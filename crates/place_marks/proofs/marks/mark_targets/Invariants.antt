use Rattle.std.proofs.Common.{take}
use Rattle.place_marks.proofs.TargetLemmas.{HasMarked}
use Rattle.place_marks.proofs.marks.mark_targets.Given as goal

abbrev pub invariant-loop-target : goal.invariant-loop-target
invariant-loop-target g l = HasMarked (g.G.PlaceGraph.graph l.graph) l.initial.marks l.marks l.place (take l.target-index l.ends)
