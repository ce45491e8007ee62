use Rattle.std.proofs.Common.{subst, sym}
use Rattle.world_object.specs.Standing.{ArePartsOf}
use Rattle.world_object.proofs.parts.ClusterParts.begin.Goals as goal

pub parts_of-requires : goal.parts_of-requires
parts_of-requires c =
    let s = c.args.script in
    let are : ArePartsOf s c.begin_world.new.world c.in_ok-seeds.seeds c.in_ok-actors.actors c.in_ok-progress.progress = record {
      script = c.requires;
      world = c.in_ok-seeds.ensures.begun;
      seeds_are = c.in_ok-seeds.ensures.actors;
      actors = c.in_ok-actors.ensures;
      progress = c.in_ok-progress.ensures;
    } in
    subst (λ x. ArePartsOf x c.begin_world.new.world c.in_ok-seeds.seeds c.in_ok-actors.actors c.in_ok-progress.progress) (sym c.of-start.ensures) are
