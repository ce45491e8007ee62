use Rattle.std.proofs.Common.{◌≡◌, length}
use Rattle.kept_marks.specs.Kept.{IsKept, KeepsWatch, check_work}
use Rattle.kept_marks.proofs.kept.KeptMarks.check.Given as goal

abbrev pub invariant-loop : goal.invariant-loop
invariant-loop g l = IsKept (g.G.PlaceGraph.graph l.graph) l.self × KeepsWatch l.initial.self l.self × (length l.self.supports ≡ length l.initial.self.supports)

abbrev pub decreases-loop : goal.decreases-loop
decreases-loop g l = check_work l.self
