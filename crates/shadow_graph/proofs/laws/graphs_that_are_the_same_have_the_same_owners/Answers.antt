use Rattle.shadow_graph.proofs.SameFoldLemmas.{known-count-same, owners-same}
use Rattle.shadow_graph.proofs.laws.graphs_that_are_the_same_have_the_same_owners.Goals as goal

pub returns-clause-known : goal.returns-clause-known
returns-clause-known c = known-count-same

pub returns-clause-owners : goal.returns-clause-owners
returns-clause-owners c = owners-same
