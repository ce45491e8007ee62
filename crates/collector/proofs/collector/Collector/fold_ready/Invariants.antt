use Rattle.std.proofs.Common.{◌≡◌, ◌+◌, length, sum}
use Rattle.collector.specs.Taking.{Folds}
use Rattle.collector.proofs.collector.Collector.fold_ready.Given as goal

abbrev pub invariant-loop-count : goal.invariant-loop-count
invariant-loop-count l = Folds l.initial.self l.self × (sum l.self.order.cut ≡ sum l.initial.self.order.cut + l.count)

abbrev pub decreases-loop-count : goal.decreases-loop-count
decreases-loop-count l = length l.self.order.kept
