use Rattle.event_lines.proofs.LinesLaws.{spelling-injective}
use Rattle.event_lines.proofs.laws.no_two_lines_are_spelled_alike.Goals as goal

pub returns : goal.returns
returns c = spelling-injective
