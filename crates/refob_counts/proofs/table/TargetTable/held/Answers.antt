use Rattle.std.proofs.Common.{sym, ◌∙◌}
use Rattle.refob_counts.proofs.TableLemmas.{count-at, count-stray}
use Rattle.refob_counts.proofs.table.TargetTable.held.Goals as goal

pub returns-in-Some : goal.returns-in-Some
returns-in-Some c =
    let place = rw c.deref.ensures.value at c.in-Some.ensures.some in
    rw (← c.self.view_is) (sym (count-at c.self.inside.rising.items c.self.inside.strays.entries c.self.invariant c.args.target c.in-Some.place c.index.result.now place c.index.ensures))

pub returns-in-None : goal.returns-in-None
returns-in-None c =
    let none = rw c.deref.ensures.value at c.in-None.ensures.none in
    rw (← c.self.view_is) (c.held_in.ensures ∙ sym (count-stray c.self.inside.rising.items c.self.inside.strays.entries c.self.invariant c.args.target none))
