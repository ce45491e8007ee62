use Rattle.std.proofs.Common.{◌+◌, ◌<◌, ◌^◌, sym, subst}
use Rattle.crgc_ids.specs.Members.{IsAmong}
use Rattle.ingress_gateway.specs.Keeping.{IsKept}
use Rattle.ingress_gateway.specs.Pending.{Pending, carried_count}
use Rattle.ingress_gateway.proofs.KeepingLemmas.{kept-carried}
use Rattle.ingress_gateway.proofs.backlog.Backlog.note_carried.Goals as goal

pub invariant_of-self : goal.invariant_of-self
invariant_of-self c =
    let fits = subst (λ (p : Pending). carried_count c.args.owner c.args.target p.carried + 1 < 2 ^ 32) (sym c.self.view_is) c.requires.fits in
    let named = subst (λ (p : Pending). IsAmong c.args.owner p.messages) (sym c.self.view_is) c.requires.named in
    subst (λ rows. IsKept c.self.inside.messages.items rows c.add.new.self) (sym c.push_reserved.ensures.items)
    (kept-carried c.self.inside.messages.items c.self.inside.carried.items c.self.inside.names c.add.new.self c.args.owner c.args.target c.self.invariant fits named (record { names = c.add.ensures.names; count = c.add.ensures.count }))
