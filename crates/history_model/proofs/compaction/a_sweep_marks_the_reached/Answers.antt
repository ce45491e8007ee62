use Rattle.history_model.proofs.CompactedSweeps.{compacted-nobody, compacted-unmarked, dead-or_marked}
use Rattle.history_model.proofs.compaction.a_sweep_marks_the_reached.Goals as goal

pub returns-clause-dead : goal.returns-clause-dead
returns-clause-dead c = compacted-unmarked

pub returns-clause-either : goal.returns-clause-either
returns-clause-either c = dead-or_marked

pub returns-clause-nobody : goal.returns-clause-nobody
returns-clause-nobody c = compacted-nobody
