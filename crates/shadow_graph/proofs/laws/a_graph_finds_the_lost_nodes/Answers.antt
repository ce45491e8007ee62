use Rattle.shadow_graph.proofs.GraphLemmas.{lost-same}
use Rattle.shadow_graph.proofs.laws.a_graph_finds_the_lost_nodes.Goals as goal

pub returns : goal.returns
returns c = lost-same
