use Rattle.std.proofs.Common.{◌+◌, ◌<◌, ◌^◌, sym, subst}
use Rattle.ingress_gateway.specs.Keeping.{IsKept}
use Rattle.ingress_gateway.specs.Pending.{Pending, message_count}
use Rattle.ingress_gateway.proofs.KeepingLemmas.{kept-message}
use Rattle.ingress_gateway.proofs.backlog.Backlog.note_message.Goals as goal

pub invariant_of-self : goal.invariant_of-self
invariant_of-self c =
    let fits = subst (λ (p : Pending). message_count c.args.to p.messages + 1 < 2 ^ 32) (sym c.self.view_is) c.requires.fits in
    subst (λ rows. IsKept rows c.self.inside.carried.items c.add.new.self) (sym c.push_reserved.ensures.items)
    (kept-message c.self.inside.messages.items c.self.inside.carried.items c.self.inside.names c.add.new.self c.args.to c.self.invariant fits (record { names = c.add.ensures.names; count = c.add.ensures.count }))
