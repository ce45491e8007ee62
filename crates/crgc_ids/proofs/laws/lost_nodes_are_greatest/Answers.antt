use Rattle.crgc_ids.proofs.LostNodesLaws.{lost_nodes-greatest, lost_nodes-lost, lost_nodes-rise}
use Rattle.crgc_ids.proofs.laws.lost_nodes_are_greatest.Goals as goal

pub returns-clause-lost : goal.returns-clause-lost
returns-clause-lost c = lost_nodes-lost

pub returns-clause-greatest : goal.returns-clause-greatest
returns-clause-greatest c = lost_nodes-greatest

pub returns-clause-rising : goal.returns-clause-rising
returns-clause-rising c = lost_nodes-rise
