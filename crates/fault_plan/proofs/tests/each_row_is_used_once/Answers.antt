use Rattle.std.specs.List.{IsDistinct}
use Rattle.fault_plan.proofs.tests.each_row_is_used_once.Goals as goal

pub new-plan-requires-clause-losses : goal.new-plan-requires-clause-losses
unfolding IsDistinct
new-plan-requires-clause-losses g c = rw (c.in_ok-push.ensures.ok, c.new-losses.ensures) (tt, tt)

pub new-plan-requires-clause-repeats : goal.new-plan-requires-clause-repeats
unfolding IsDistinct
new-plan-requires-clause-repeats g c = rw (c.in_ok-repeats.ensures, c.in_ok-push.ensures.ok, c.new-losses.ensures) (tt, tt)

pub new-plan-requires-clause-crashes : goal.new-plan-requires-clause-crashes
unfolding IsDistinct
new-plan-requires-clause-crashes g c = rw (c.in_ok-push-2.ensures.ok, c.new-crashes.ensures) (tt, tt)
