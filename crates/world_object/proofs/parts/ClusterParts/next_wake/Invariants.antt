use Rattle.std.proofs.Common.{◌-◌, ◌*◌}
use Rattle.world_object.proofs.Searches.{NobodyBefore, IsPlace, place_of}
use Rattle.world_object.proofs.parts.ClusterParts.next_wake.Given as goal

abbrev pub invariant-loop-actor : goal.invariant-loop-actor
invariant-loop-actor l = record {
  before : NobodyBefore l.self.script.value l.self.world.past l.after;
  place : IsPlace l.after;
}

abbrev pub decreases-loop-actor : goal.decreases-loop-actor
decreases-loop-actor l = 16 * 262144 - place_of l.after
