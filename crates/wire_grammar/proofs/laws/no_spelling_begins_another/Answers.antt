use Rattle.wire_grammar.proofs.Bulletins.{spelling-first}
use Rattle.wire_grammar.proofs.laws.no_spelling_begins_another.Goals as goal

pub returns : goal.returns
returns c = spelling-first
