use Rattle.std.proofs.Common.{◌+◌, refl, ap, arith}
use Rattle.link_table.specs.declared.piles.Pile.{Pile}
use Rattle.link_table.specs.Piled.{more, weight}
use Rattle.link_table.proofs.PiledLemmas.{pile_changed, pile_written}
use Rattle.link_table.proofs.piles.Piles.repeat.Goals as goal

pub invariant_of-self-2 : goal.invariant_of-self-2
invariant_of-self-2 c =
    let was = c.in-Some.pile.now in
    let is : Pile = record { copies = was.copies + 1; message = was.message } in
    let changes = pile_written c.self.inside.piles (c.get_mut.follows.lender is) c.args.number was is c.in-Some.ensures.value (c.get_mut.follows.holds is) in
    let before = ap weight c.in-Some.ensures.value in
    omega (arith, changes.count)

pub returns : goal.returns
returns c =
    let was = c.in-Some.pile.now in
    let is : Pile = record { copies = was.copies + 1; message = was.message } in
    rw (← c.self.view_is)
    (pile_changed more c.self.inside.piles (c.get_mut.follows.lender is) c.args.number was is c.in-Some.ensures.value (c.get_mut.follows.holds is) refl)
