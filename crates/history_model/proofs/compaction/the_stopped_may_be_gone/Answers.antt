use Rattle.history_model.proofs.CompactedSweeps.{fewer-gone, gone-stays, more-gone, nobody-gone, once_dead-gone}
use Rattle.history_model.proofs.compaction.the_stopped_may_be_gone.Goals as goal

pub returns-clause-once_dead : goal.returns-clause-once_dead
returns-clause-once_dead c = once_dead-gone

pub returns-clause-first : goal.returns-clause-first
returns-clause-first c = nobody-gone

pub returns-clause-take : goal.returns-clause-take
returns-clause-take c = gone-stays

pub returns-clause-sweep : goal.returns-clause-sweep
returns-clause-sweep c = more-gone

pub returns-clause-compact : goal.returns-clause-compact
returns-clause-compact c = fewer-gone
