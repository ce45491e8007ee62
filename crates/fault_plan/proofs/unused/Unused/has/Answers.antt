use Rattle.std.proofs.Common.{sym, ◌∙◌}
use Rattle.fault_plan.proofs.IndexLemmas.{any-kept, any-tie}
use Rattle.fault_plan.proofs.unused.Unused.has.Goals as goal

pub returns : goal.returns
returns c =
    let index = c.self.inside.left.keys in
    c.contains.ensures ∙ any-tie c.args.row index
    ∙ rw (← c.self.view_is) (sym (any-kept index c.self.inside.rows.items c.args.row c.self.invariant))
