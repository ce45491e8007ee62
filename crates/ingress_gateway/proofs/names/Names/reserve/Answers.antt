use Rattle.std.proofs.Common.{subst}
use Rattle.std.specs.HashSet.{spare}
use Rattle.ingress_gateway.specs.NameSet.{HasSameNames, NameSet}
use Rattle.ingress_gateway.proofs.names.Names.reserve.Goals as goal

pub returns-clause-same : goal.returns-clause-same
returns-clause-same c =
    let same : HasSameNames (record { actors = c.self.inside.actors.keys; room = spare c.self.inside.actors }) (record { actors = c.reserve.new.self.keys; room = spare c.reserve.new.self }) =
    record { names = c.reserve.ensures.keys.2; count = c.reserve.ensures.keys.1; room = c.reserve.ensures.spare } in
    subst (λ (n : NameSet). HasSameNames n (record { actors = c.reserve.new.self.keys; room = spare c.reserve.new.self })) c.self.view_is same
