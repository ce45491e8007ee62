use Rattle.std.proofs.Common.{◌≡◌, ◌-◌, length}
use Rattle.place_marks.proofs.ReachLemmas.{IsSpread}
use Rattle.place_marks.proofs.marks.spread.Given as goal

abbrev pub invariant-loop-done : goal.invariant-loop-done
invariant-loop-done g l =
    (length l.marks.marks ≡ length l.initial.marks.marks) × IsSpread (g.G.PlaceGraph.graph l.graph) l.marks l.done

abbrev pub decreases-loop-done : goal.decreases-loop-done
decreases-loop-done g l = length l.marks.marks - l.done
