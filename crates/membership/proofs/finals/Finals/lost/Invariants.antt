use Rattle.std.proofs.Common.{length}
use Rattle.membership.proofs.LostLemmas.{IsBetween}
use Rattle.membership.specs.Noted.{links_of}
use Rattle.membership.proofs.finals.Finals.lost.Given as goal

abbrev pub invariant-loop-kept : goal.invariant-loop-kept
invariant-loop-kept l = IsBetween l.self.nodes (links_of l.self) l.lost

abbrev pub decreases-loop-kept : goal.decreases-loop-kept
decreases-loop-kept l = length l.lost
