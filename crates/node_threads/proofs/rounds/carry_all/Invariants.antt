use Rattle.std.proofs.Common.{◌≡◌}
use Rattle.cluster_calls.specs.Calling.{IsSame}
use Rattle.node_threads.specs.Pumping.{HasCarries, Since}
use Rattle.node_threads.specs.Questions.{times_given_up}
use Rattle.node_threads.proofs.rounds.carry_all.Given as goal

abbrev pub invariant-loop-number : goal.invariant-loop-number
invariant-loop-number g l =
    IsSame l.initial.pass l.pass × Since (HasCarries l.at l.number) l.initial.pass.own l.pass.own
    × (times_given_up l.pass.own ≡ times_given_up l.initial.pass.own)
