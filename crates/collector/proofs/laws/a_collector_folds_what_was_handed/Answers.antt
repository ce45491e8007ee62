use Rattle.collector.proofs.HistoryLemmas.{cut-folded, folded-at}
use Rattle.collector.proofs.laws.a_collector_folds_what_was_handed.Goals as goal

pub returns-clause-cut : goal.returns-clause-cut
returns-clause-cut c = cut-folded

pub returns-clause-fold : goal.returns-clause-fold
returns-clause-fold c = folded-at
