use Rattle.event_lines.proofs.FreeLaws.{header_line-free, spelling-free}
use Rattle.event_lines.proofs.laws.no_line_has_a_line_feed.Goals as goal

pub returns-clause-line : goal.returns-clause-line
returns-clause-line c = spelling-free

pub returns-clause-header : goal.returns-clause-header
returns-clause-header c = header_line-free
