use Rattle.cluster_calls.specs.Calling.{IsSame}
use Rattle.node_threads.specs.Fetching.{AreFetched, Goes}
use Rattle.node_threads.proofs.fetching.fetch_all.Given as goal

abbrev pub invariant-loop : goal.invariant-loop
invariant-loop g l =
    IsSame l.initial.pass l.pass
    × Goes l.lock l.initial.pass l.pass l.initial.collector l.collector (AreFetched l.origin l.initial.collector l.collector l.any)
