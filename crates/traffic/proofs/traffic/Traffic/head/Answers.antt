use Rattle.std.proofs.Common.{rules}
use Rattle.traffic.proofs.ReadingLemmas.{head-read}
use Rattle.traffic.proofs.traffic.Traffic.head.Goals as goal

pub returns-clause-stands : goal.returns-clause-stands
returns-clause-stands c = λ cl h stands. head-read c.args.from c.args.at h _ _ (stands.links c.args.from c.args.at c.link.ensures.ends) (search rules) (search rules)
