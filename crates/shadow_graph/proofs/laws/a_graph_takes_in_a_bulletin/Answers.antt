use Rattle.shadow_graph.proofs.GraphLemmas.{graph-final, graph-more}
use Rattle.shadow_graph.proofs.laws.a_graph_takes_in_a_bulletin.Goals as goal

pub returns-clause-more : goal.returns-clause-more
returns-clause-more c = graph-more

pub returns-clause-closing : goal.returns-clause-closing
returns-clause-closing c = graph-final
