use Rattle.shadow_graph.proofs.SameFoldLemmas.{fold-same}
use Rattle.shadow_graph.proofs.laws.graphs_of_one_fold_are_the_same.Goals as goal

pub returns : goal.returns
returns c = fold-same
