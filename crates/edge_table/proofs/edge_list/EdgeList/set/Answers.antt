use Rattle.std.proofs.Common.{ap}
use Rattle.std.proofs.Math.Seq.{map-set_same}
use Rattle.std.proofs.lemmas.List.{map-set}
use Rattle.edge_table.proofs.edge_list.EdgeList.set.Goals as goal

pub returns-clause-pairs : goal.returns-clause-pairs
returns-clause-pairs c = rw (← c.self.view_is) (map-set_same (λ e. e.pair.value) c.self.inside.items.items c.args.number _ c.index_mut.result.now (ap (λ e. e.pair.value) c.index_mut.ensures.value))

pub returns-clause-edges : goal.returns-clause-edges
returns-clause-edges c = rw (← c.self.view_is) (map-set (λ e. e.edge) c.self.inside.items.items c.args.number _)
