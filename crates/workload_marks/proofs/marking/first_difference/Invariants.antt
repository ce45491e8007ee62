use Rattle.workload_marks.specs.Differing.{AgreeBelow}
use Rattle.workload_marks.proofs.marking.first_difference.Given as goal

abbrev pub invariant-loop-place : goal.invariant-loop-place
invariant-loop-place l = AgreeBelow l.graph l.one l.other l.place
