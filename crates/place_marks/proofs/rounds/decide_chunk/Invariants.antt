use Rattle.std.proofs.Common.{◌≡◌, ◌+◌, ◌<◌, ℕ, false, get_or, length}
use Rattle.std.specs.Bool.{Decides}
use Rattle.place_marks.specs.Rounds.{IsMarkedNext}
use Rattle.place_marks.proofs.rounds.decide_chunk.Given as goal

abbrev pub invariant-loop-k : goal.invariant-loop-k
invariant-loop-k g l =
    (length l.chunk ≡ length l.initial.chunk)
    × ((j : ℕ) → j < l.k → Decides (get_or l.chunk j false) (IsMarkedNext (g.G.PlaceGraph.graph l.graph) l.before (l.start + j)))
