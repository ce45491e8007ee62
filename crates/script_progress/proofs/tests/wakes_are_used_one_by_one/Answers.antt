use Rattle.std.specs.List.{IsDistinct}
use Rattle.script_progress.proofs.tests.wakes_are_used_one_by_one.Goals as goal

pub new-plan-requires-clause-losses : goal.new-plan-requires-clause-losses
unfolding IsDistinct
new-plan-requires-clause-losses g c = rw (c.new-2.ensures) tt

pub new-plan-requires-clause-repeats : goal.new-plan-requires-clause-repeats
unfolding IsDistinct
new-plan-requires-clause-repeats g c = rw (c.new-3.ensures) tt

pub new-plan-requires-clause-crashes : goal.new-plan-requires-clause-crashes
unfolding IsDistinct
new-plan-requires-clause-crashes g c = rw (c.new-4.ensures) tt
