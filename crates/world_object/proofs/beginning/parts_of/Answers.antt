use Rattle.std.proofs.Common.{[], ◌∷◌, None, refl}
use Rattle.world_object.specs.declared.parts.ClusterParts.{ClusterParts}
use Rattle.world_object.proofs.Starts.{begins-new, begins-stands, none-claimed}
use Rattle.world_object.proofs.beginning.parts_of.Goals as goal

pub returns-clause-stands : goal.returns-clause-stands
returns-clause-stands c =
    let p : ClusterParts = record {
      world = c.args.world;
      actors = c.args.actors;
      progress = c.args.progress;
      seeds = c.args.seeds;
      claims = None ∷ None ∷ None ∷ None ∷ None ∷ None ∷ None ∷ None ∷ None ∷ None ∷ None ∷ None ∷ None ∷ None ∷ None ∷ None ∷ [];
      halt = None;
      verdicts = c.new.result;
      alloc = c.args.alloc;
      script = c.args.script;
    } in
    let are = c.requires in
    begins-stands p c.args.script.value refl are.script are.world are.seeds_are are.actors are.progress

pub returns-clause-new : goal.returns-clause-new
returns-clause-new c =
    let p : ClusterParts = record {
      world = c.args.world;
      actors = c.args.actors;
      progress = c.args.progress;
      seeds = c.args.seeds;
      claims = None ∷ None ∷ None ∷ None ∷ None ∷ None ∷ None ∷ None ∷ None ∷ None ∷ None ∷ None ∷ None ∷ None ∷ None ∷ None ∷ [];
      halt = None;
      verdicts = c.new.result;
      alloc = c.args.alloc;
      script = c.args.script;
    } in
    let are = c.requires in
    begins-new p c.args.script.value refl are.script are.world are.seeds_are are.actors are.progress (none-claimed (None ∷ None ∷ None ∷ None ∷ None ∷ None ∷ None ∷ None ∷ None ∷ None ∷ None ∷ None ∷ None ∷ None ∷ None ∷ None ∷ []) (refl, (refl, (refl, (refl, (refl, (refl, (refl, (refl, (refl, (refl, (refl, (refl, (refl, (refl, (refl, (refl, tt))))))))))))))))) refl
