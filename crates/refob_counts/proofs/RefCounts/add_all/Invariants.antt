use Rattle.std.proofs.Common.{take}
use Rattle.refob_counts.specs.Counts.{IsGain}
use Rattle.refob_counts.proofs.RefCounts.add_all.Given as goal

abbrev pub invariant-loop-done : goal.invariant-loop-done
invariant-loop-done l = IsGain l.fn.self l.self (take l.done l.targets)
