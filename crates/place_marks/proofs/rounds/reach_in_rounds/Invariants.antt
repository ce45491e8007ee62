use Rattle.std.proofs.Common.{◌≡◌, ◌-◌, length}
use Rattle.std.specs.List.{count_by}
use Rattle.place_marks.proofs.RoundLemmas.{AreAllReached}
use Rattle.place_marks.proofs.rounds.reach_in_rounds.Given as goal

abbrev pub invariant-loop-before : goal.invariant-loop-before
invariant-loop-before g l =
    (length l.marks ≡ length l.initial.marks)
    × (length l.before ≡ length l.initial.before)
    × AreAllReached (g.G.PlaceGraph.graph l.graph) l.marks

abbrev pub decreases-loop-before : goal.decreases-loop-before
decreases-loop-before g l = length l.marks - count_by (λ m. m) l.marks
