use Rattle.crgc_ids.proofs.LostNodesLaws.{lost_nodes-greatest, lost_nodes-lost}
use Rattle.history_model.specs.Folds.{final_links}
use Rattle.history_model.proofs.LinksSettled.{among-lost, lost-among}
use Rattle.history_model.proofs.laws.lost_nodes_are_the_greatest_set.Goals as goal

pub returns-clause-members : goal.returns-clause-members
returns-clause-members c = λ cl f n. (lost-among cl f n, among-lost cl f n)

pub returns-clause-closed : goal.returns-clause-closed
returns-clause-closed c = λ cl f. lost_nodes-lost cl.nodes (final_links cl f)

pub returns-clause-greatest : goal.returns-clause-greatest
returns-clause-greatest c = λ cl f. lost_nodes-greatest cl.nodes (final_links cl f)
