use Rattle.std.proofs.Common.{◌≡◌, ◌+◌, ◌<◌, ◌^◌, None, ap, refl, sym, ◌∙◌, subst}
use Rattle.std.proofs.lemmas.Bool.{both_ways}
use Rattle.std.specs.List.{count_by}
use Rattle.std.specs.Result.{is_err}
use Rattle.crgc_ids.specs.Actor.{same_actor}
use Rattle.ingress_gateway.specs.Admission.{Admits}
use Rattle.ingress_gateway.specs.Pending.{carried_count}
use Rattle.link_table.specs.declared.piles.Envelope.{Envelope}
use Rattle.link_table.specs.LinkState.{Admitted, FitsGate, GateAdmits, LinkState}
use Rattle.link_table.specs.Piled.{ChangesPile, copies_in, fewer, message_in, pile_at, stripped}
use Rattle.link_table.proofs.KeepingLemmas.{admits-kept, changes-twice, gate-admits, gate-again, gate-fresh, some-sent, stripped-bare, with_gate}
use Rattle.link_table.proofs.link.Link.admit.Goals as goal

pub invariant_of-self : goal.invariant_of-self
invariant_of-self c =
    let old : LinkState = record { is_open = c.self.inside.is_open; sent = c.self.inside.egress; gate = c.self.inside.ingress; piles = c.self.inside.piles } in
    let number = c.args.number in
    let some = subst (λ (l : LinkState). 0 < copies_in (pile_at l.piles number)) (sym c.self.view_is) c.requires.some in
    let none : message_in (pile_at old.piles number) ≡ None = sym c.in_default.ensures in
    let changes = subst (λ o. ChangesPile old.piles c.lose.new.self number (fewer o)) (sym (stripped-bare (pile_at old.piles number) none)) c.lose.ensures in
    admits-kept old old.gate c.lose.new.self number c.self.invariant some (gate-again old number c.self.invariant some none) changes

pub returns-in_default-clause-ok : goal.returns-in_default-clause-ok
returns-in_default-clause-ok c =
    let old : LinkState = record { is_open = c.self.inside.is_open; sent = c.self.inside.egress; gate = c.self.inside.ingress; piles = c.self.inside.piles } in
    let number = c.args.number in
    let some = subst (λ (l : LinkState). 0 < copies_in (pile_at l.piles number)) (sym c.self.view_is) c.requires.some in
    let none : message_in (pile_at old.piles number) ≡ None = sym c.in_default.ensures in
    let changes = subst (λ o. ChangesPile old.piles c.lose.new.self number (fewer o)) (sym (stripped-bare (pile_at old.piles number) none)) c.lose.ensures in
    let came : Admitted old (with_gate old old.gate c.lose.new.self) number =
    record { moved = record { link = (refl, refl); piles = changes }; gate = gate-again old number c.self.invariant some none } in
    subst (λ (l : LinkState). Admitted l (with_gate old old.gate c.lose.new.self) number) c.self.view_is came

pub admit-requires-clause-carried : goal.admit-requires-clause-carried
admit-requires-clause-carried c = λ a.
    let message : Envelope = c.in-Some.message.now in
    let fits = subst (λ (l : LinkState). FitsGate l.gate (message_in (pile_at l.piles c.args.number))) (sym c.self.view_is) c.requires.fits in
    let found = subst (FitsGate c.self.inside.ingress) (sym c.in-Some.ensures) fits in
    subst (λ refs. carried_count message.to a c.self.inside.ingress.carried + count_by (same_actor a) refs < 2 ^ 32) (sym c.as_slice-refs.ensures) (found.1 a)

-- the gate admits the message
gate : (c : goal.After-lose-2) → GateAdmits c.self.inside.ingress c.admit.new.self c.args.number (message_in (pile_at c.self.inside.piles c.args.number))
gate c =
    let old : LinkState = record { is_open = c.self.inside.is_open; sent = c.self.inside.egress; gate = c.self.inside.ingress; piles = c.self.inside.piles } in
    let number = c.args.number in
    let message : Envelope = c.in-Some.message.now in
    let some = subst (λ (l : LinkState). 0 < copies_in (pile_at l.piles number)) (sym c.self.view_is) c.requires.some in
    let fresh = gate-fresh old number message c.self.invariant some c.in-Some.ensures in
    let opened = c.self.invariant.opened (some-sent old number c.self.invariant some).1 in
    let no_err = sym c.is_err.ensures.value ∙ c.if-is_err.false in
    let admits = gate-admits old.gate c.admit.new.self number message.to c.as_slice-refs.result.now c.admit.result (λ e failed. both_ways (is_err c.admit.result) no_err (ap is_err failed)) c.admit.ensures.ok opened fresh in
    subst (GateAdmits old.gate c.admit.new.self number) c.in-Some.ensures (fresh, subst (Admits old.gate c.admit.new.self number message.to) c.as_slice-refs.ensures admits)

-- the message was taken out, then a copy
changes : (c : goal.After-lose-2) → ChangesPile c.self.inside.piles c.lose-2.new.self c.args.number (fewer (stripped (pile_at c.self.inside.piles c.args.number)))
changes c =
    let number = c.args.number in
    let first = c.strip-message.ensures.after in
    let last = subst (λ o. ChangesPile c.strip-message.new.self c.lose-2.new.self number (fewer o)) first.changed c.lose-2.ensures in
    changes-twice c.self.inside.piles c.strip-message.new.self c.lose-2.new.self number (stripped (pile_at c.self.inside.piles number)) (fewer (stripped (pile_at c.self.inside.piles number))) first last

pub invariant_of-self-2 : goal.invariant_of-self-2
invariant_of-self-2 c =
    let old : LinkState = record { is_open = c.self.inside.is_open; sent = c.self.inside.egress; gate = c.self.inside.ingress; piles = c.self.inside.piles } in
    let some = subst (λ (l : LinkState). 0 < copies_in (pile_at l.piles c.args.number)) (sym c.self.view_is) c.requires.some in
    admits-kept old c.admit.new.self c.lose-2.new.self c.args.number c.self.invariant some (gate c) (changes c)

pub returns-clause-ok : goal.returns-clause-ok
returns-clause-ok c =
    let old : LinkState = record { is_open = c.self.inside.is_open; sent = c.self.inside.egress; gate = c.self.inside.ingress; piles = c.self.inside.piles } in
    let new = with_gate old c.admit.new.self c.lose-2.new.self in
    let came : Admitted old new c.args.number = record { moved = record { link = (refl, refl); piles = changes c }; gate = gate c } in
    subst (λ (l : LinkState). Admitted l new c.args.number) c.self.view_is came
