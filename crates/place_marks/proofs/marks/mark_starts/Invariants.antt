use Rattle.std.proofs.Common.{◌≡◌, ℕ, ◌<◌, true, length}
use Rattle.place_marks.specs.Marks.{AreMarksReached, is_marked}
use Rattle.place_marks.proofs.marks.mark_starts.Given as goal

abbrev pub invariant-loop-place : goal.invariant-loop-place
invariant-loop-place g l =
    (length l.marks.marks ≡ length l.initial.marks.marks)
    × ((p : ℕ) → p < l.place → (g.G.PlaceGraph.graph l.graph).is_start p ≡ true → is_marked l.marks p ≡ true)
    × AreMarksReached (g.G.PlaceGraph.graph l.graph) l.marks
