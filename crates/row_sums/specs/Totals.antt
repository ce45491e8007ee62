-- How often rows count an actor, or a pair of an owner and a target: the sum of the counts of its rows.
pub use Rattle.history_model.specs.Ledgers.{actor_total, pair_total}
