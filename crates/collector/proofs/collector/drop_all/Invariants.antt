use Rattle.std.proofs.Common.{take}
use Rattle.collector.specs.Traced.{DropsAll}
use Rattle.collector.proofs.collector.drop_all.Given as goal

abbrev pub invariant-loop-actor : goal.invariant-loop-actor
invariant-loop-actor l = DropsAll (take l.actor-index l.gone) l.initial.graph l.graph
