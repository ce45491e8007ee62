use Rattle.std.proofs.Common.{◌≡◌}
use Rattle.locked_objects.specs.Counter.{added}
use Rattle.locked_objects.proofs.counter.add_hundred.Given as goal

abbrev pub invariant-loop-done : goal.invariant-loop-done
invariant-loop-done g l = (l.pass.origin ≡ l.initial.pass.origin) × (added l.pass.own ≡ l._done)
