use Rattle.std.proofs.Common.{rules, ◌∙◌}
use Rattle.traffic.proofs.traffic.Traffic.is_up.Goals as goal

pub returns-clause-stands : goal.returns-clause-stands
returns-clause-stands c = λ cl h stands. (search rules) ∙ stands.up c.args.node
