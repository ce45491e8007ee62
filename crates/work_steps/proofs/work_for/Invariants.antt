use Rattle.std.proofs.Common.{◌≡◌}
use Rattle.work_steps.proofs.work_for.Given as goal

abbrev pub invariant-loop : goal.invariant-loop
invariant-loop l = l.done ≡ l.counter
