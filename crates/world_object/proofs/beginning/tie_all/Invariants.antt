use Rattle.std.proofs.Common.{◌≡◌, take}
use Rattle.run_model.specs.Doing.{cluster_of}
use Rattle.world_object.specs.Standing.{seeds_of}
use Rattle.world_object.proofs.Starts.{ties_done}
use Rattle.world_object.proofs.beginning.tie_all.Given as goal

abbrev pub invariant-loop-tie : goal.invariant-loop-tie
invariant-loop-tie l = record {
  cluster : l.world.cluster ≡ cluster_of l.script;
  past : l.world.past ≡ ties_done l.script (take l.tie-index l.tie-items) (seeds_of l.script);
}
