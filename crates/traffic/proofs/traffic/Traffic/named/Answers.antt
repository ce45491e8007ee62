use Rattle.std.proofs.Common.{rules, ◌∙◌}
use Rattle.traffic.proofs.ReadingLemmas.{named-read}
use Rattle.traffic.proofs.traffic.Traffic.named.Goals as goal

pub returns-clause-stands : goal.returns-clause-stands
returns-clause-stands c = λ cl h stands. (search rules) ∙ named-read c.args.from c.args.at h _ (stands.links c.args.from c.args.at c.link.ensures.ends)
