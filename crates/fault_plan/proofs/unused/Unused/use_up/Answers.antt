use Rattle.std.proofs.Common.{false}
use Rattle.fault_plan.proofs.IndexLemmas.{index-updates, kept-without, within-less}
use Rattle.fault_plan.proofs.unused.Unused.use_up.Goals as goal

pub invariant_of-self : goal.invariant_of-self
invariant_of-self c =
    within-less c.self.inside.left.keys c.remove.new.self.keys c.self.inside.rows.items c.args.row c.self.invariant
    (index-updates c.self.inside.left.keys c.remove.new.self.keys c.args.row false c.remove.ensures.updates.0)

pub returns : goal.returns
returns c =
    rw (← c.self.view_is) (kept-without c.self.inside.left.keys c.remove.new.self.keys c.self.inside.rows.items c.args.row
    (index-updates c.self.inside.left.keys c.remove.new.self.keys c.args.row false c.remove.ensures.updates.0))
