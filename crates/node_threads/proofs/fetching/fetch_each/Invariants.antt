use Rattle.cluster_calls.specs.Calling.{IsSame}
use Rattle.node_threads.specs.Fetching.{EachIsFetched, Goes}
use Rattle.node_threads.proofs.fetching.fetch_each.Given as goal

abbrev pub invariant-loop-number : goal.invariant-loop-number
invariant-loop-number g l =
    IsSame l.initial.pass l.pass
    × Goes l.lock l.initial.pass l.pass l.initial.collector l.collector (EachIsFetched l.number l.collector l.any)
