use Rattle.membership.proofs.LostLemmas.{lost_nodes-same, removed_nodes-same}
use Rattle.membership.proofs.laws.same_links_lose_the_same.Goals as goal

pub returns-clause-removed : goal.returns-clause-removed
returns-clause-removed c = removed_nodes-same

pub returns-clause-lost : goal.returns-clause-lost
returns-clause-lost c = lost_nodes-same
