use Rattle.std.proofs.Common.{◌<◌, subst, arith}
use Rattle.std.specs.List.{AllByRecursion}
use Rattle.crgc_ids.specs.Rising.{IsRising}
use Rattle.crgc_ids.proofs.NodesLaws.{flagged-below, flagged-member, flagged-rise}
use Rattle.crgc_ids.proofs.node_set.NodeSet.contains.Goals as goal

pub returns-clause-member : goal.returns-clause-member
returns-clause-member c = rw (← c.self.view_is, ← c.get.ensures.number) (flagged-member c.get.result c.self.inside.flags (omega arith))

pub returns-clause-rising : goal.returns-clause-rising
returns-clause-rising c = subst (IsRising ◌<◌) c.self.view_is (flagged-rise 0 c.self.inside.flags)

pub returns-clause-in_range : goal.returns-clause-in_range
returns-clause-in_range c = subst (AllByRecursion (λ k. k < 16)) c.self.view_is (flagged-below 16 0 c.self.inside.flags (omega arith))
