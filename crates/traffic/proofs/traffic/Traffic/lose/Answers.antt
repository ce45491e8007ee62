use Rattle.std.proofs.Common.{rules}
use Rattle.traffic.proofs.KeepingLinks.{loses-copy}
use Rattle.traffic.proofs.traffic.Traffic.lose.Goals as goal

pub returns-clause-kept : goal.returns-clause-kept
returns-clause-kept c = λ cl p. loses-copy cl _ _ _ p _ _ (search rules)
