use Rattle.std.proofs.Common.{◌≡◌, ◌-◌, ◌==◌, None, Some, ap, sym, ◌∙◌, arith}
use Rattle.std.proofs.lemmas.Bool.{cond-false, ne_eqb}
use Rattle.link_table.specs.declared.piles.Pile.{Pile}
use Rattle.link_table.specs.Piled.{copies_in, fewer, pile_at, weight}
use Rattle.link_table.proofs.PiledLemmas.{pile_changed, pile_written}
use Rattle.link_table.proofs.piles.Piles.lose.Goals as goal

pub invariant_of-self-2 : goal.invariant_of-self-2
invariant_of-self-2 c =
    let was = c.in-Some.pile.now in
    let is : Pile = record { copies = was.copies - 1; message = was.message } in
    let changes = pile_written c.self.inside.piles (c.get_mut.follows.lender is) c.args.number was is c.in-Some.ensures.value (c.get_mut.follows.holds is) in
    let before = ap weight c.in-Some.ensures.value in
    omega (arith, changes.count)

pub returns : goal.returns
returns c =
    let was = c.in-Some.pile.now in
    let is : Pile = record { copies = was.copies - 1; message = was.message } in
    let there : copies_in (pile_at c.self.inside.piles.entries c.args.number) ≡ c.copies.result = rw c.self.view_is (sym c.copies.ensures) in
    let same = ap copies_in c.in-Some.ensures.value ∙ there in
    let some_left : fewer (Some was) ≡ Some is = cond-false (was.copies == 1) None (Some is) (ne_eqb was.copies 1 (λ one. c.if-copies-eq1.false (sym same ∙ one))) in
    rw (← c.self.view_is)
    (pile_changed fewer c.self.inside.piles (c.get_mut.follows.lender is) c.args.number was is c.in-Some.ensures.value (c.get_mut.follows.holds is) some_left)
