use Rattle.wire_grammar.proofs.Bulletins.{reading-cases, reading-not_both}
use Rattle.wire_grammar.proofs.laws.a_spelling_or_a_first_fault.Goals as goal

pub returns : goal.returns
returns c = record { one = reading-cases; not_both = reading-not_both }
