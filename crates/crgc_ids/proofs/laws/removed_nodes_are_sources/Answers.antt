use Rattle.crgc_ids.proofs.LostNodesLaws.{removed_nodes-rise, removed_nodes-sources}
use Rattle.crgc_ids.proofs.laws.removed_nodes_are_sources.Goals as goal

pub returns-clause-sources : goal.returns-clause-sources
returns-clause-sources c = removed_nodes-sources

pub returns-clause-rising : goal.returns-clause-rising
returns-clause-rising c = removed_nodes-rise
