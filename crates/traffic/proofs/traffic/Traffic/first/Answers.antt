use Rattle.std.proofs.Common.{rules, ◌∙◌}
use Rattle.traffic.proofs.ReadingLemmas.{first-read}
use Rattle.traffic.proofs.traffic.Traffic.first.Goals as goal

pub returns-clause-stands : goal.returns-clause-stands
returns-clause-stands c = λ cl h stands. (search rules) ∙ first-read cl h _ c.args.actor stands
