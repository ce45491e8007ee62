use Rattle.std.proofs.Common.{take}
use Rattle.kept_marks.proofs.KeptLemmas.{AreUnmarked}
use Rattle.kept_marks.proofs.steps.find_support.Given as goal

abbrev pub invariant-loop-owner : goal.invariant-loop-owner
invariant-loop-owner g l = AreUnmarked (g.G.PlaceGraph.graph l.graph) l.supports l.place (take l.owner-index l.ends)
