use Rattle.std.proofs.Common.{◌+◌, ◌<◌, ◌^◌, [], ◌∷◌, refl, sym, subst, inl}
use Rattle.crgc_ids.specs.Members.{IsAmong}
use Rattle.crgc_ids.proofs.MembersLaws.{IsAmong-append_right}
use Rattle.ingress_gateway.specs.Pending.{carried_count}
use Rattle.ingress_gateway.proofs.CarriedLemmas.{carried-fits}
use Rattle.ingress_gateway.proofs.backlog.Backlog.note.Goals as goal

pub note_carried-requires-clause-fits : goal.note_carried-requires-clause-fits
note_carried-requires-clause-fits c =
    let target = c.target-item.result in
    subst (λ carried. carried_count c.args.to target carried + 1 < 2 ^ 32) (sym c.loop-target.invariant.carried)
    (carried-fits c.args.to target c.args.self.now.carried c.args.refs.now c.loop-target.target-index c.loop-target-test.true c.target-item.is (c.requires.carried target))

pub note_carried-requires-clause-named : goal.note_carried-requires-clause-named
note_carried-requires-clause-named c =
    subst (IsAmong c.args.to) (sym c.loop-target.invariant.messages) (IsAmong-append_right c.args.to c.args.self.now.messages (c.args.to ∷ []) (inl refl))
