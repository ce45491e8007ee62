use Rattle.event_lines.proofs.LinesLaws.{read-spelling}
use Rattle.event_lines.proofs.laws.what_is_read_is_spelled_so.Goals as goal

pub returns : goal.returns
returns c = read-spelling
