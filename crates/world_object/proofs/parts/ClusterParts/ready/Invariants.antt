use Rattle.std.proofs.Common.{drop}
use Rattle.operation_model.specs.Answers.{ready}
use Rattle.world_object.proofs.Ready.{IsRest}
use Rattle.world_object.proofs.parts.ClusterParts.ready.Given as goal

abbrev pub invariant-loop : goal.invariant-loop
invariant-loop l = IsRest l.self.world.past l.after (drop l.counter (ready l.self.script.value l.self.world.past))
