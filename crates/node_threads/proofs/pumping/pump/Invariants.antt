use Rattle.std.proofs.Common.{◌≡◌}
use Rattle.cluster_calls.specs.Calling.{IsSame}
use Rattle.node_threads.specs.Questions.{IsOver, times_given_up}
use Rattle.node_threads.proofs.pumping.pump.Given as goal

abbrev pub invariant-loop : goal.invariant-loop
invariant-loop g l =
    IsSame l.initial.pass l.pass × IsOver l.initial.pass.number l.over l.pass.own × (times_given_up l.pass.own ≡ times_given_up l.initial.pass.own)
