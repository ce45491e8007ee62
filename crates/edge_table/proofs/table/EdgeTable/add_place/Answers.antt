use Rattle.std.proofs.Common.{arith}
use Rattle.std.specs.Result.{is_ok}
use Rattle.edge_table.proofs.TableLemmas.{table-place_pushed}
use Rattle.edge_table.proofs.table.EdgeTable.add_place.Goals as goal

pub invariant_of-self : goal.invariant_of-self
invariant_of-self c = (
  table-place_pushed c.self.inside.edges.pairs c.self.inside.edges.edges c.self.inside.places.items c.push.new.self.items c.new.result (is_ok c.push.result) c.self.invariant.0 c.new.ensures.from c.new.ensures.to (omega arith) c.push.ensures.items,
  c.self.invariant.1,
)
