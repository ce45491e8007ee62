use Rattle.std.proofs.Common.{rules, ◌∙◌}
use Rattle.traffic.proofs.ReadingLemmas.{live-read}
use Rattle.traffic.proofs.traffic.Traffic.live_count.Goals as goal

pub returns-clause-stands : goal.returns-clause-stands
returns-clause-stands c = λ cl h stands. (search rules) ∙ live-read cl h _ stands
