use Rattle.std.proofs.Common.{◌≡◌}
use Rattle.refused_memory.proofs.counting.add_hundred.Given as goal

abbrev pub invariant-loop-done : goal.invariant-loop-done
invariant-loop-done g l = l.pass.origin ≡ l.initial.pass.origin
