use Rattle.std.proofs.Common.{◌-◌, length}
use Rattle.script_workers.specs.Returned.{AreRowsAt}
use Rattle.script_workers.proofs.gathering.add_new.Given as goal

abbrev pub invariant-loop-alloc : goal.invariant-loop-alloc
invariant-loop-alloc l = AreRowsAt l.world.cluster l.world.past l.rows.items

abbrev pub decreases-loop-alloc : goal.decreases-loop-alloc
decreases-loop-alloc l = l.below - length l.rows.items
