use Rattle.wire_grammar.proofs.Bulletins.{reading-found}
use Rattle.wire_grammar.proofs.laws.what_is_read_is_spelled_so.Goals as goal

pub returns : goal.returns
returns c = reading-found
