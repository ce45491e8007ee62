use Rattle.wire_grammar.proofs.Bulletins.{reading-again}
use Rattle.wire_grammar.proofs.laws.each_spelling_is_read.Goals as goal

pub returns : goal.returns
returns c = reading-again
