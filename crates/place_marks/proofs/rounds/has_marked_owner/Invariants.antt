use Rattle.std.proofs.Common.{take}
use Rattle.place_marks.proofs.RoundLemmas.{AreUnmarked}
use Rattle.place_marks.proofs.rounds.has_marked_owner.Given as goal

abbrev pub invariant-loop-owner : goal.invariant-loop-owner
invariant-loop-owner g l = AreUnmarked (g.G.PlaceGraph.graph l.graph) l.marks l.place (take l.owner-index l.ends)
