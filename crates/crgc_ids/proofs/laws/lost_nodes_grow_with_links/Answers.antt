use Rattle.crgc_ids.proofs.LostNodesLaws.{lost_nodes-grow, removed_nodes-grow}
use Rattle.crgc_ids.proofs.laws.lost_nodes_grow_with_links.Goals as goal

pub returns-clause-removed : goal.returns-clause-removed
returns-clause-removed c = removed_nodes-grow

pub returns-clause-lost : goal.returns-clause-lost
returns-clause-lost c = lost_nodes-grow
