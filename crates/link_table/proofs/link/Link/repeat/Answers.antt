use Rattle.std.proofs.Common.{◌<◌, not, refl, sym, subst, arith}
use Rattle.ingress_gateway.specs.Gate.{is_admitted}
use Rattle.link_table.specs.LinkState.{LinkState}
use Rattle.link_table.specs.Piled.{copies_in, more, pile_at}
use Rattle.link_table.proofs.KeepingLemmas.{keeps-moved, more-with, weight-more}
use Rattle.link_table.proofs.link.Link.repeat.Goals as goal

pub invariant_of-self : goal.invariant_of-self
invariant_of-self c =
    let old : LinkState = record { is_open = c.self.inside.is_open; sent = c.self.inside.egress; gate = c.self.inside.ingress; piles = c.self.inside.piles } in
    let pile = pile_at old.piles c.args.number in
    let some = subst (λ (l : LinkState). 0 < copies_in (pile_at l.piles c.args.number)) (sym c.self.view_is) c.requires.some in
    keeps-moved old (record old { piles = c.repeat.new.self }) c.args.number (more pile) c.self.invariant (record { link = (refl, refl); piles = c.repeat.ensures }) some (λ _ _. refl)
    (more-with (not (is_admitted old.gate c.args.number)) pile (c.self.invariant.piles c.args.number)) (omega (arith, weight-more pile)) (λ e. e)
