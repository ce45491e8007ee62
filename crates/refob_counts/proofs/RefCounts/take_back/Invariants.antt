use Rattle.std.proofs.Common.{take}
use Rattle.refob_counts.specs.Counts.{IsGain}
use Rattle.refob_counts.proofs.RefCounts.take_back.Given as goal

abbrev pub invariant-loop-target : goal.invariant-loop-target
invariant-loop-target l = IsGain l.self l.fn.self (take l.target-index l.targets)
