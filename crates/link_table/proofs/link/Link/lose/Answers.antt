use Rattle.std.proofs.Common.{◌<◌, not, refl, sym, subst}
use Rattle.ingress_gateway.specs.Gate.{is_admitted}
use Rattle.link_table.specs.LinkState.{LinkState}
use Rattle.link_table.specs.Piled.{copies_in, fewer, pile_at}
use Rattle.link_table.proofs.KeepingLemmas.{fewer-with, keeps-moved, weight-fewer}
use Rattle.link_table.proofs.link.Link.lose.Goals as goal

pub invariant_of-self : goal.invariant_of-self
invariant_of-self c =
    let old : LinkState = record { is_open = c.self.inside.is_open; sent = c.self.inside.egress; gate = c.self.inside.ingress; piles = c.self.inside.piles } in
    let pile = pile_at old.piles c.args.number in
    let some = subst (λ (l : LinkState). 0 < copies_in (pile_at l.piles c.args.number)) (sym c.self.view_is) c.requires in
    keeps-moved old (record old { piles = c.lose.new.self }) c.args.number (fewer pile) c.self.invariant (record { link = (refl, refl); piles = c.lose.ensures }) some (λ _ _. refl)
    (fewer-with (not (is_admitted old.gate c.args.number)) pile (c.self.invariant.piles c.args.number)) (weight-fewer pile) (λ e. e)
