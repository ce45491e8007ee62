use Rattle.event_lines.proofs.ExtraLaws.{line-extra}
use Rattle.event_lines.proofs.laws.words_too_much_follow_a_line.Goals as goal

pub returns : goal.returns
returns c = line-extra
