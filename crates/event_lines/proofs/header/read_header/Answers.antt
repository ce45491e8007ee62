use Rattle.std.proofs.Common.{◌∙◌, ap}
use Rattle.event_lines.specs.Header.{header_numbers}
use Rattle.event_lines.proofs.HeaderLaws.{header-match}
use Rattle.event_lines.proofs.header.read_header.Goals as goal

pub returns : goal.returns
returns c = header-match c.args.line.now c.header.result (c.header.ensures ∙ ap header_numbers c.of.ensures)
