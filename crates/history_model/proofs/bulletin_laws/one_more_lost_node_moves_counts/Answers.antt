use Rattle.history_model.proofs.OneMoreBulletin.{lost-links}
use Rattle.history_model.proofs.OneMoreLost.{moves-counts}
use Rattle.history_model.proofs.bulletin_laws.one_more_lost_node_moves_counts.Goals as goal

pub returns-clause-counts : goal.returns-clause-counts
returns-clause-counts c = moves-counts

pub returns-clause-lost : goal.returns-clause-lost
returns-clause-lost c = lost-links
