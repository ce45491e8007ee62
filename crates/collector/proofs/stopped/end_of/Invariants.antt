use Rattle.std.proofs.Common.{◌<◌, take}
use Rattle.std.specs.List.{AllByRecursion}
use Rattle.collector.proofs.stopped.end_of.Given as goal

abbrev pub invariant-loop-actor : goal.invariant-loop-actor
invariant-loop-actor l = AllByRecursion (λ a. a.serial < l.end) (take l.actor-index l.actors)
