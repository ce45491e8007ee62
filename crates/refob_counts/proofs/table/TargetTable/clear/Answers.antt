use Rattle.refob_counts.proofs.TableLemmas.{change-strays, change-written, table-strays, table-written}
use Rattle.refob_counts.proofs.table.TargetTable.clear.Goals as goal

pub invariant_of-self : goal.invariant_of-self
invariant_of-self c =
    let place = rw c.deref.ensures.value at c.in-Some.ensures.some in
    table-written c.self.inside.rising.items c.self.inside.strays.entries c.self.invariant c.in-Some.place c.args.target c.index_mut.result.now 0 place c.index_mut.ensures.value

pub invariant_of-self-in-None : goal.invariant_of-self-in-None
invariant_of-self-in-None c =
    let none = rw c.deref.ensures.value at c.in-None.ensures.none in
    table-strays c.self.inside.rising.items c.self.inside.strays.entries _ c.self.invariant c.args.target 0 none c.clear_in.ensures

pub returns-in-Some : goal.returns-in-Some
returns-in-Some c =
    let place = rw c.deref.ensures.value at c.in-Some.ensures.some in
    rw (← c.self.view_is) (change-written c.self.inside.rising.items c.self.inside.strays.entries c.self.invariant c.in-Some.place c.args.target c.index_mut.result.now 0 place c.index_mut.ensures.value)

pub returns-in-None : goal.returns-in-None
returns-in-None c =
    let none = rw c.deref.ensures.value at c.in-None.ensures.none in
    rw (← c.self.view_is) (change-strays c.self.inside.rising.items c.self.inside.strays.entries _ c.self.invariant c.args.target 0 none c.clear_in.ensures)
