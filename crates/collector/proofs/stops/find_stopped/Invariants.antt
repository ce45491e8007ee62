use Rattle.collector.specs.Traced.{HasFound, TakesSome}
use Rattle.kept_marks.specs.PlaceSet.{count_of}
use Rattle.collector.proofs.stops.find_stopped.Given as goal

abbrev pub invariant-loop-found : goal.invariant-loop-found
invariant-loop-found l =
    TakesSome l.initial.graph l.graph × HasFound l.initial.graph l.node l.stopped l.graph.kept.fallen l.found.items

abbrev pub decreases-loop-found : goal.decreases-loop-found
decreases-loop-found l = count_of l.graph.kept.fallen
