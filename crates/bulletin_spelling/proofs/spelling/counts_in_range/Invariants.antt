use Rattle.std.proofs.Common.{take}
use Rattle.std.specs.List.{AllByRecursion}
use Rattle.bulletin_spelling.specs.Rows.{IsInRange}
use Rattle.bulletin_spelling.proofs.spelling.counts_in_range.Given as goal

abbrev pub invariant-loop-row : goal.invariant-loop-row
invariant-loop-row l = AllByRecursion IsInRange (take l.row-index l.rows)
