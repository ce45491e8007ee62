use Rattle.std.proofs.Common.{◌<◌, ℕ}
use Rattle.traffic.specs.Readings.{MayCut}
use Rattle.traffic.proofs.traffic.Traffic.next_window.Given as goal

abbrev pub invariant-loop-number : goal.invariant-loop-number
invariant-loop-number l = (k : ℕ) → k < l.number → MayCut l.fn.self l.at k → ⊥
