use Rattle.std.proofs.Common.{arith}
use Rattle.crgc_ids.proofs.NodesLaws.{flagged-with}
use Rattle.crgc_ids.proofs.node_set.NodeSet.with.Goals as goal

pub returns : goal.returns
returns c = rw (← c.self.view_is, ← c.get.ensures.number) (flagged-with c.get.result c.self.inside.flags (omega arith))
