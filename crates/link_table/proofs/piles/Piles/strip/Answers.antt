use Rattle.std.proofs.Common.{◌≡◌, Some, ap, sym, arith}
use Rattle.link_table.specs.declared.piles.Pile.{Pile}
use Rattle.link_table.specs.Piled.{stripped, weight}
use Rattle.link_table.proofs.PiledLemmas.{pile_changed, pile_written}
use Rattle.link_table.proofs.piles.Piles.strip.Goals as goal

pub invariant_of-self-in_err-message : goal.invariant_of-self-in_err-message
invariant_of-self-in_err-message c =
    let was = c.in_ok-pile.pile.now in
    let is : Pile = record { copies = was.copies; message = c.take.new.self } in
    let changes = pile_written c.self.inside.piles (c.get_mut.follows.lender is) c.args.number was is c.in_ok-pile.ensures.value (c.get_mut.follows.holds is) in
    let before = ap weight c.in_ok-pile.ensures.value in
    let none : weight (Some was) ≡ 0 = ap (λ m. weight (Some (record { copies = was.copies; message = m }))) (sym c.in_err-message.ensures.value) in
    let left : weight (Some is) ≡ 0 = ap (λ m. weight (Some (record { copies = was.copies; message = m }))) c.take.ensures.after in
    omega (arith, changes.count)

pub invariant_of-self-2 : goal.invariant_of-self-2
invariant_of-self-2 c =
    let was = c.in_ok-pile.pile.now in
    let is : Pile = record { copies = was.copies; message = c.take.new.self } in
    let changes = pile_written c.self.inside.piles (c.get_mut.follows.lender is) c.args.number was is c.in_ok-pile.ensures.value (c.get_mut.follows.holds is) in
    let before = ap weight c.in_ok-pile.ensures.value in
    let one : weight (Some was) ≡ 1 = ap (λ m. weight (Some (record { copies = was.copies; message = m }))) (sym c.in_ok-message.ensures.value) in
    let left : weight (Some is) ≡ 0 = ap (λ m. weight (Some (record { copies = was.copies; message = m }))) c.take.ensures.after in
    omega (arith, changes.count)

pub returns-in_err-message-clause-after : goal.returns-in_err-message-clause-after
returns-in_err-message-clause-after c =
    let was = c.in_ok-pile.pile.now in
    let is : Pile = record { copies = was.copies; message = c.take.new.self } in
    let same : stripped (Some was) ≡ Some is = ap (λ m. Some (record { copies = was.copies; message = m })) (sym c.take.ensures.after) in
    rw (← c.self.view_is)
    (pile_changed stripped c.self.inside.piles (c.get_mut.follows.lender is) c.args.number was is c.in_ok-pile.ensures.value (c.get_mut.follows.holds is) same)

pub returns-clause-after : goal.returns-clause-after
returns-clause-after c =
    let was = c.in_ok-pile.pile.now in
    let is : Pile = record { copies = was.copies; message = c.take.new.self } in
    let same : stripped (Some was) ≡ Some is = ap (λ m. Some (record { copies = was.copies; message = m })) (sym c.take.ensures.after) in
    rw (← c.self.view_is)
    (pile_changed stripped c.self.inside.piles (c.get_mut.follows.lender is) c.args.number was is c.in_ok-pile.ensures.value (c.get_mut.follows.holds is) same)
