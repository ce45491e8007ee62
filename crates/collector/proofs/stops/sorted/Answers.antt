use Rattle.std.proofs.Common.{◌∙◌}
use Rattle.std.proofs.lemmas.List.Filters.{dedup_is}
use Rattle.wire_grammar.specs.Named.{table_of}
use Rattle.graph_wire.proofs.Sorting.{table-sorted}
use Rattle.collector.proofs.stops.sorted.Goals as goal

pub returns : goal.returns
unfolding table_of
returns c = dedup_is _ _ _ c.dedup.ensures.filtered ∙ table-sorted _ _ c.sort_unstable.ensures.permutation c.sort_unstable.ensures.sorted
