use Rattle.history_model.specs.Folds.{is_lost}
use Rattle.history_model.proofs.CompactedSweeps.{compacted-rest, compacted-stops, compacted-verdict, gone-dead}
use Rattle.history_model.proofs.compaction.a_sweep_may_leave_out_the_gone.Goals as goal

pub returns-clause-gone : goal.returns-clause-gone
returns-clause-gone c = λ cl h gone f a legal fold right. gone-dead cl gone f h legal fold right a

pub returns-clause-dead : goal.returns-clause-dead
returns-clause-dead c = λ cl h gone f legal fold right. compacted-rest cl (is_lost cl f) gone f (gone-dead cl gone f h legal fold right)

pub returns-clause-stops : goal.returns-clause-stops
returns-clause-stops c = λ cl h m gone stopped f legal fold right. compacted-stops cl m gone stopped f (gone-dead cl gone f h legal fold right)

pub returns-clause-verdict : goal.returns-clause-verdict
returns-clause-verdict c = λ cl h m gone stopped f v legal fold right were. compacted-verdict cl m gone stopped f (gone-dead cl gone f h legal fold right) were v
