use Rattle.std.proofs.Common.{rules}
use Rattle.traffic.proofs.KeepingLinks.{cuts-kept}
use Rattle.traffic.proofs.traffic.Traffic.cut_window.Goals as goal

pub returns-clause-kept : goal.returns-clause-kept
returns-clause-kept c = cuts-kept _ _ _ _ _ (search rules)
