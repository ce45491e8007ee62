use Rattle.std.proofs.Common.{rules}
use Rattle.traffic.proofs.KeepingActors.{crashes}
use Rattle.traffic.proofs.traffic.Traffic.crash.Goals as goal

pub returns-clause-kept : goal.returns-clause-kept
returns-clause-kept c = λ cl p. crashes cl _ p _ _ (search rules)
