use Rattle.std.proofs.Common.{◌≡◌, [], take}
use Rattle.run_model.specs.Doing.{cluster_of, seeded}
use Rattle.run_model.proofs.SeedRows.{seeds_done}
use Rattle.world_object.proofs.beginning.seed_all.Given as goal

abbrev pub invariant-loop-seed : goal.invariant-loop-seed
invariant-loop-seed l = record {
  cluster : l.world.cluster ≡ cluster_of l.script;
  past : l.world.past ≡ seeds_done (take l.seed-index l.seed-items) [];
  actors : l.actors ≡ seeded (take l.seed-index l.seed-items) [];
}
