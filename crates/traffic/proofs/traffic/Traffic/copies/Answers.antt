use Rattle.std.proofs.Common.{rules, ◌∙◌}
use Rattle.traffic.proofs.ReadingLemmas.{copies-read}
use Rattle.traffic.proofs.traffic.Traffic.copies.Goals as goal

pub returns-clause-stands : goal.returns-clause-stands
returns-clause-stands c = λ cl h stands opened. (search rules) ∙ copies-read c.args.from c.args.at c.args.number h _ (stands.links c.args.from c.args.at c.link.ensures.ends) opened
