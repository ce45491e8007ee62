use Rattle.std.proofs.Common.{◌≡◌, ◌+◌, drop, take}
use Rattle.std.specs.Prelude.{slice_get}
use Rattle.operation_model.specs.Answers.{ready}
use Rattle.world_object.proofs.parts.ClusterParts.ready_actors.Given as goal

abbrev pub invariant-loop : goal.invariant-loop
invariant-loop l = record {
  actors : l.actors ≡ take l.counter (drop l.skip (ready l.self.script.value l.self.world.past));
  next : l.next ≡ slice_get (ready l.self.script.value l.self.world.past) (l.skip + l.counter);
}
