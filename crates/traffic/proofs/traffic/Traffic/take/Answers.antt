use Rattle.std.proofs.Common.{rules}
use Rattle.traffic.proofs.KeepingActors.{takes}
use Rattle.traffic.proofs.traffic.Traffic.take.Goals as goal

pub returns-clause-kept : goal.returns-clause-kept
returns-clause-kept c = λ cl p. takes cl _ p _ _ (search rules)
