use Rattle.std.proofs.Common.{◌≡◌}
use Rattle.lock_callers.proofs.callers.call_often.Given as goal

abbrev pub invariant-loop-done : goal.invariant-loop-done
invariant-loop-done g l = l.pass.origin ≡ l.initial.pass.origin
