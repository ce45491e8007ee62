use Rattle.std.proofs.Common.{◌∙◌}
use Rattle.crgc_ids.specs.Nodes.{has_node}
use Rattle.shadow_graph.proofs.KeptLemmas.{has-tells}
use Rattle.collector.proofs.stops.is_lost.Goals as goal

pub returns : goal.returns
returns c =
    has-tells c.lost.result c.node.result c.contains.result c.contains.ensures.member
    ∙ (λ i. has_node (c.lost.ensures i) (c.node.ensures i))
