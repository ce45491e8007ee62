-- Edges by the pair of their owner and their target, as the rows count them.
pub use Rattle.shadow_rows.specs.Pairs.{edge_between, has_pair}
