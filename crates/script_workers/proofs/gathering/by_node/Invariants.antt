use Rattle.std.proofs.Common.{length}
use Rattle.std.specs.List.{AllByRecursion}
use Rattle.script_workers.specs.Returned.{AreRowsAt, StandsIfUp}
use Rattle.script_workers.proofs.gathering.by_node.Given as goal

abbrev pub invariant-loop-back : goal.invariant-loop-back
invariant-loop-back l = AllByRecursion (StandsIfUp l.world.cluster l.world.past) l.back.items × AreRowsAt l.world.cluster l.world.past l.rows.items

abbrev pub decreases-loop-back : goal.decreases-loop-back
decreases-loop-back l = length l.back.items
