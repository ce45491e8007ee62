use Rattle.std.proofs.Common.{take}
use Rattle.kept_marks.proofs.KeptLemmas.{HasPut}
use Rattle.kept_marks.proofs.steps.put_targets.Given as goal

abbrev pub invariant-loop-target : goal.invariant-loop-target
invariant-loop-target g l = HasPut (g.G.PlaceGraph.graph l.graph) l.supports l.initial.set l.set l.place l.on (take l.target-index l.ends)
