use Rattle.std.proofs.Common.{◌<◌, ℕ}
use Rattle.traffic.specs.Readings.{MayRemove}
use Rattle.traffic.proofs.traffic.Traffic.next_removal.Given as goal

abbrev pub invariant-loop-number : goal.invariant-loop-number
invariant-loop-number l = (k : ℕ) → k < l.number → MayRemove l.fn.self l.at k → ⊥
