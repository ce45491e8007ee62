use Rattle.history_model.proofs.CompactionGrowth.{fold-cuts, fold_to-fold, fold_to-within, folded-within}
use Rattle.history_model.proofs.compaction.a_fold_only_goes_on.Goals as goal

pub returns-clause-fold : goal.returns-clause-fold
returns-clause-fold c = fold_to-fold

pub returns-clause-lengths : goal.returns-clause-lengths
returns-clause-lengths c = fold-cuts

pub returns-clause-within : goal.returns-clause-within
returns-clause-within c = fold_to-within

pub returns-clause-at_a_node : goal.returns-clause-at_a_node
returns-clause-at_a_node c = folded-within
