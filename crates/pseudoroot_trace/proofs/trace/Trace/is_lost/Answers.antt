use Rattle.std.proofs.Common.{ap, ◌∙◌}
use Rattle.crgc_ids.specs.Actor.{Actor}
use Rattle.crgc_ids.specs.Nodes.{has_node}
use Rattle.shadow_graph.proofs.KeptLemmas.{has-tells}
use Rattle.pseudoroot_trace.proofs.trace.Trace.is_lost.Goals as goal

pub returns-in-Some : goal.returns-in-Some
returns-in-Some c =
    let lost = rw c.in-Some.is at c.self.invariant in
    rw (← c.self.view_is)
    (has-tells c.in-Some.lost c.node.result c.contains.result c.contains.ensures.member
    ∙ (λ i. has_node (lost i) ((c.node.ensures ∙ ap (λ (a : Actor). a.node) c.actor_at.ensures) i)))
