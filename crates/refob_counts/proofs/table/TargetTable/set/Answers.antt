use Rattle.refob_counts.proofs.TableLemmas.{change-after, change-strays_after, change-written, none-after, none-strays_after, same-after, table-after, table-strays_after, table-written}
use Rattle.refob_counts.proofs.table.TargetTable.set.Goals as goal

pub invariant_of-self : goal.invariant_of-self
invariant_of-self c =
    let next = rw c.deref.ensures.value at (c.is_next.ensures.0 c.if-is_next.true) in
    table-after c.push.result c.self.inside.rising.items c.self.inside.strays.entries _ c.self.invariant c.args.target c.args.count next c.push.ensures.ok c.push.ensures.err

pub returns-then-is_next-clause-ok : goal.returns-then-is_next-clause-ok
returns-then-is_next-clause-ok c =
    let next = rw c.deref.ensures.value at (c.is_next.ensures.0 c.if-is_next.true) in
    rw (← c.self.view_is) (change-after c.push.result c.self.inside.rising.items c.self.inside.strays.entries _ c.self.invariant c.args.target c.args.count next c.push.ensures.ok)

pub returns-then-is_next-clause-err : goal.returns-then-is_next-clause-err
returns-then-is_next-clause-err c =
    rw (← c.self.view_is) (same-after c.push.result c.self.inside.rising.items c.self.inside.strays.entries _ c.push.ensures.err)

pub returns-then-is_next-clause-absent : goal.returns-then-is_next-clause-absent
returns-then-is_next-clause-absent c =
    let next = rw c.deref.ensures.value at (c.is_next.ensures.0 c.if-is_next.true) in
    rw (← c.self.view_is) (none-after c.push.result c.self.inside.rising.items c.self.inside.strays.entries c.self.invariant c.args.target next)

pub invariant_of-self-in-Some : goal.invariant_of-self-in-Some
invariant_of-self-in-Some c =
    let place = rw c.deref-2.ensures.value at c.in-Some.ensures.some in
    table-written c.self.inside.rising.items c.self.inside.strays.entries c.self.invariant c.in-Some.place c.args.target c.index_mut.result.now c.args.count place c.index_mut.ensures.value

pub returns-in-Some-clause-ok : goal.returns-in-Some-clause-ok
returns-in-Some-clause-ok c =
    let place = rw c.deref-2.ensures.value at c.in-Some.ensures.some in
    rw (← c.self.view_is) (change-written c.self.inside.rising.items c.self.inside.strays.entries c.self.invariant c.in-Some.place c.args.target c.index_mut.result.now c.args.count place c.index_mut.ensures.value)

pub invariant_of-self-in-None : goal.invariant_of-self-in-None
invariant_of-self-in-None c =
    let none = rw c.deref-2.ensures.value at c.in-None.ensures.none in
    table-strays_after c.set_in.result c.self.inside.rising.items c.self.inside.strays.entries _ c.self.invariant c.args.target _ none c.set_in.ensures.ok c.set_in.ensures.err

pub returns-in-None-clause-ok : goal.returns-in-None-clause-ok
returns-in-None-clause-ok c =
    let none = rw c.deref-2.ensures.value at c.in-None.ensures.none in
    rw (← c.self.view_is) (change-strays_after c.set_in.result c.self.inside.rising.items c.self.inside.strays.entries _ c.self.invariant c.args.target c.args.count none c.set_in.ensures.ok)

pub returns-in-None-clause-absent : goal.returns-in-None-clause-absent
returns-in-None-clause-absent c =
    let none = rw c.deref-2.ensures.value at c.in-None.ensures.none in
    rw (← c.self.view_is) (none-strays_after c.set_in.result c.self.inside.rising.items c.self.inside.strays.entries c.self.invariant c.args.target none c.set_in.ensures.absent)
