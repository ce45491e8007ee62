use Rattle.std.proofs.Common.{◌≡◌, [], subst}
use Rattle.ingress_gateway.specs.Pending.{Pending}
use Rattle.ingress_gateway.proofs.KeepingLemmas.{no_carried}
use Rattle.ingress_gateway.proofs.backlog.Backlog.is_empty.Goals as goal

pub returns-clause-none : goal.returns-clause-none
returns-clause-none c = λ t.
    subst (λ (p : Pending). p.carried ≡ []) c.self.view_is
    (no_carried c.self.inside.messages.items c.as_slice.result.now c.self.inside.carried.items c.self.inside.names c.is_empty.result c.self.invariant c.as_slice.ensures.value c.is_empty.ensures t)
