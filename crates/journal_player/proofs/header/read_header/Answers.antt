use Rattle.journal_player.proofs.HeaderLaws.{header-read}
use Rattle.journal_player.proofs.header.read_header.Goals as goal

pub returns-clause-header : goal.returns-clause-header
returns-clause-header c = header-read c.args.line.now c.read_header.result c.read_header.ensures
