use Rattle.std.proofs.Common.{◌≡◌, ◌<◌, ℕ, get_or, length}
use Rattle.link_table.specs.LinkState.{IsNewLink}
use Rattle.link_table.specs.Table.{blank, end_of, source_of}
use Rattle.link_table.proofs.table.LinkTable.new.Given as goal

abbrev pub invariant-loop-number : goal.invariant-loop-number
invariant-loop-number l = record {
  many : length l.links.items ≡ l.number;
  fresh : (j : ℕ) → j < l.number → IsNewLink (get_or l.links.items j blank) (source_of j) (end_of j);
}
