use Rattle.std.proofs.Common.{rules, ◌∙◌}
use Rattle.traffic.proofs.traffic.Traffic.sent.Goals as goal

pub returns-clause-stands : goal.returns-clause-stands
returns-clause-stands c = λ cl h stands. (search rules) ∙ (stands.links c.args.from c.args.at c.link.ensures.ends).stamped
