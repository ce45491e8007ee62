use Rattle.std.proofs.Common.{rules}
use Rattle.traffic.proofs.KeepingActors.{rests-kept}
use Rattle.traffic.proofs.traffic.Traffic.rest.Goals as goal

pub returns-clause-kept : goal.returns-clause-kept
returns-clause-kept c = rests-kept _ _ _ _ (search rules)
