use Rattle.std.proofs.Common.{rules}
use Rattle.traffic.proofs.KeepingLinks.{repeats-copy}
use Rattle.traffic.proofs.traffic.Traffic.repeat.Goals as goal

pub returns-clause-kept : goal.returns-clause-kept
returns-clause-kept c = λ cl p. repeats-copy cl _ _ _ p _ _ (search rules)
