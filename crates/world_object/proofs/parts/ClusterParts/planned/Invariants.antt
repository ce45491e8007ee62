use Rattle.world_object.specs.Searching.{planned_of}
use Rattle.world_object.proofs.Starts.{IsSum}
use Rattle.world_object.proofs.parts.ClusterParts.planned.Given as goal

abbrev pub invariant-loop-seed : goal.invariant-loop-seed
invariant-loop-seed l = IsSum (planned_of l.self.script.value l.self.world.past) l.seed-items l.seed-index l.sum
