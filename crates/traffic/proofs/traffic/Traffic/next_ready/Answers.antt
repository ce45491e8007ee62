use Rattle.std.proofs.Common.{rules}
use Rattle.traffic.proofs.ReadingLemmas.{next-read}
use Rattle.traffic.proofs.traffic.Traffic.next_ready.Goals as goal

pub returns-clause-stands : goal.returns-clause-stands
returns-clause-stands c = λ cl h stands. next-read cl h _ _ _ stands (search rules) (search rules)
