use Rattle.std.proofs.Common.{◌≡◌, ◌-◌, ◌<◌, ◌≤◌, ℕ, length}
use Rattle.edge_table.specs.Partition.{nth_of, numbers_in}
use Rattle.edge_table.proofs.partition.place_in.Given as goal

-- the number stands from the one place to the other
abbrev pub invariant-loop-low : goal.invariant-loop-low
invariant-loop-low l = (k : ℕ) × (l.low ≤ k) × (k ≤ l.high) × (l.high < length l.ends) × (nth_of (numbers_in l.ends) k ≡ l.number)

abbrev pub decreases-loop-low : goal.decreases-loop-low
decreases-loop-low l = l.high - l.low
