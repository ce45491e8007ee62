use Rattle.std.proofs.Common.{ap, arith}
use Rattle.link_table.specs.Piled.{weight}
use Rattle.link_table.proofs.PiledLemmas.{pile_removed, weight-kept}
use Rattle.link_table.proofs.piles.Piles.clear_away.Goals as goal

pub overflow_sub-self : goal.overflow_sub-self
overflow_sub-self c =
    let found = ap weight c.in-Some.ensures.value in
    omega (arith, found, c.weight.ensures, weight-kept c.self.inside.piles.entries c.args.number)

pub invariant_of-self-2 : goal.invariant_of-self-2
invariant_of-self-2 c =
    let found = ap weight c.in-Some.ensures.value in
    let changes = pile_removed c.self.inside.piles.entries c.remove.new.self.entries c.args.number c.remove.ensures.entries c.remove.ensures.updates.1 c.remove.ensures.updates.2 in
    omega (arith, found, c.weight.ensures, changes.count)

pub returns : goal.returns
returns c =
    rw (← c.self.view_is)
    (pile_removed c.self.inside.piles.entries c.remove.new.self.entries c.args.number c.remove.ensures.entries c.remove.ensures.updates.1 c.remove.ensures.updates.2)
