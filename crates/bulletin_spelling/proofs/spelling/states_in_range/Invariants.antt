use Rattle.std.proofs.Common.{take}
use Rattle.std.specs.List.{AllByRecursion}
use Rattle.wire_grammar.specs.Spellable.{IsStateRow}
use Rattle.bulletin_spelling.proofs.spelling.states_in_range.Given as goal

abbrev pub invariant-loop-row : goal.invariant-loop-row
invariant-loop-row l = AllByRecursion IsStateRow (take l.row-index l.rows)
