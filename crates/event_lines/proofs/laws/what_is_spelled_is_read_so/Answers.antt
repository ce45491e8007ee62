use Rattle.event_lines.proofs.LinesLaws.{spelling-read}
use Rattle.event_lines.proofs.laws.what_is_spelled_is_read_so.Goals as goal

pub returns : goal.returns
returns c = spelling-read
