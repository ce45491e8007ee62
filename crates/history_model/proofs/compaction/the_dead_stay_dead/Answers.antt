use Rattle.history_model.proofs.CompactionDead.{dead-stays, dead-stays_settled, dead_at-stays, stopped-dead}
use Rattle.history_model.proofs.compaction.the_dead_stay_dead.Goals as goal

pub returns-clause-folds : goal.returns-clause-folds
returns-clause-folds c = λ cl h g f a legal fold within. dead-stays cl h g f legal fold within a

pub returns-clause-at_a_node : goal.returns-clause-at_a_node
returns-clause-at_a_node c = dead_at-stays

pub returns-clause-settled : goal.returns-clause-settled
returns-clause-settled c = λ cl h c d lost more a legal longer grows first second. dead-stays_settled cl h c d lost more legal longer grows first second a

pub returns-clause-stopped : goal.returns-clause-stopped
returns-clause-stopped c = stopped-dead
