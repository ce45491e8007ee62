use Rattle.std.proofs.Common.{[], ◌∷◌}
use Rattle.world_object.specs.Answering.{Happens}
use Rattle.world_object.proofs.Effects.{kept-or}
use Rattle.world_object.proofs.Standings.{stands-round}
use Rattle.world_object.proofs.parts.ClusterParts.done.Goals as goal

pub returns-clause-stands : goal.returns-clause-stands
returns-clause-stands c =
    let old = c.args.self.now in
    let new = c.make.new.self in
    let e = c.args.event.now in
    kept-or (Happens (e ∷ []) old new) old new c.make.result c.make.ensures.ok c.make.ensures.err c.requires.stands (stands-round old new e c.requires.stands c.requires.of_round)
