use Rattle.std.proofs.Common.{rules}
use Rattle.traffic.proofs.Beginning.{begins}
use Rattle.traffic.proofs.traffic.Traffic.new.Goals as goal

pub returns-clause-stands : goal.returns-clause-stands
returns-clause-stands c = λ cl same. begins cl _ _ same c.requires (search rules)
