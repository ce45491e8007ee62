use Rattle.std.proofs.Common.{rules}
use Rattle.traffic.proofs.KeepingLinks.{closes-link}
use Rattle.traffic.proofs.traffic.Traffic.close.Goals as goal

pub returns-clause-kept : goal.returns-clause-kept
returns-clause-kept c = λ cl p. closes-link cl _ _ p _ _ (search rules)
