use Rattle.std.proofs.Common.{rules}
use Rattle.traffic.proofs.KeepingActors.{wakes}
use Rattle.traffic.proofs.traffic.Traffic.wake.Goals as goal

pub returns-clause-kept : goal.returns-clause-kept
returns-clause-kept c = λ cl p. wakes cl _ p _ _ (search rules)
