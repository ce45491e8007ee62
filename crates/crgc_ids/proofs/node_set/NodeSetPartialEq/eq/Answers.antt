use Rattle.std.proofs.Common.{◌∙◌}
use Rattle.crgc_ids.proofs.NodesLaws.{flags-equal}
use Rattle.crgc_ids.proofs.node_set.NodeSetPartialEq.eq.Goals as goal

pub returns : goal.returns
returns c = rw (← c.self.view_is, ← c.other.view_is) (c.eq.ensures ∙ flags-equal 16 c.self.inside.flags c.other.inside.flags c.self.invariant c.other.invariant)
