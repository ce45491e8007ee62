use Rattle.std.proofs.Common.{◌≡◌, ◌++◌, length, reverse}
use Rattle.script_workers.proofs.closing.course_of.Given as goal

abbrev pub invariant-loop-course : goal.invariant-loop-course
invariant-loop-course l = (reverse l.events ++ l.course.past ≡ l.fn.history.past) × (l.course.cluster ≡ l.fn.history.cluster)

abbrev pub decreases-loop-course : goal.decreases-loop-course
decreases-loop-course l = length l.events
