use Rattle.std.proofs.Common.{◌≡◌, length}
use Rattle.kept_marks.specs.Kept.{IsEmpty, IsKept, KeepsWatch, settle_work}
use Rattle.kept_marks.proofs.kept.KeptMarks.settle.Given as goal

abbrev pub invariant-loop : goal.invariant-loop
invariant-loop g l = IsKept (g.G.PlaceGraph.graph l.graph) l.self × KeepsWatch l.initial.self l.self × (length l.self.supports ≡ length l.initial.self.supports) × IsEmpty l.self.touched

abbrev pub decreases-loop : goal.decreases-loop
decreases-loop g l = settle_work l.self
