use Rattle.workload_marks.specs.Trio.{AreSettled}
use Rattle.workload_marks.proofs.following.follow_all.Given as goal

abbrev pub invariant-loop-place : goal.invariant-loop-place
invariant-loop-place g l = AreSettled l.collectors
