use Rattle.std.proofs.Common.{rules}
use Rattle.edge_table.proofs.FoundLemmas.{found_none}
use Rattle.edge_table.proofs.TableLemmas.{table-none}
use Rattle.edge_table.proofs.table.EdgeTable.new.Goals as goal

pub invariant_of-result : goal.invariant_of-result
invariant_of-result c = (table-none c.new.result.pairs c.new.result.edges c.new-3.result.items c.new.ensures.pairs c.new.ensures.edges c.new-3.ensures.items, (found_none c.new-2.result c.new.result.edges c.new-2.ensures c.new.ensures.edges, search rules))
