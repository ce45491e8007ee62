use Rattle.traffic.proofs.Beginning.{as-before}
use Rattle.traffic.proofs.laws.what_is_as_before_stands_as_before.Goals as goal

pub returns : goal.returns
returns c = as-before
