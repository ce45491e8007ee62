use Rattle.std.proofs.Common.{sym, subst}
use Rattle.ingress_gateway.specs.Keeping.{IsKept}
use Rattle.ingress_gateway.proofs.KeepingLemmas.{kept-same}
use Rattle.ingress_gateway.proofs.backlog.Backlog.reserve.Goals as goal

pub invariant_of-self-2 : goal.invariant_of-self-2
invariant_of-self-2 c =
    subst (λ rows. IsKept rows c.reserve-else-is_err.new.self.items c.reserve-2.new.self) (sym c.reserve.ensures.items)
    (subst (λ rows. IsKept c.self.inside.messages.items rows c.reserve-2.new.self) (sym c.reserve-else-is_err.ensures.items)
    (kept-same c.self.inside.messages.items c.self.inside.carried.items c.self.inside.names c.reserve-2.new.self c.self.invariant c.reserve-2.ensures.same))
