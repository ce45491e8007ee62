use Rattle.std.proofs.Common.{◌≡◌, [], length, take}
use Rattle.run_model.specs.Doing.{seeded}
use Rattle.script_actors.specs.Begun.{IsBegun}
use Rattle.script_actors.proofs.actors.ScriptActors.add_seeds.Given as goal

abbrev pub invariant-loop-seed : goal.invariant-loop-seed
invariant-loop-seed l = record {
  begun : IsBegun l.script (take l.seed-index l.seed-items) [] l.self;
  actors : l.actors ≡ seeded (take l.seed-index l.seed-items) [];
  nodes : length l.self ≡ length l.initial.self;
}
