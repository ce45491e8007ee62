use Rattle.fault_plan.proofs.IndexLemmas.{index-push}
use Rattle.fault_plan.proofs.links.LinkRows.push.Goals as goal

pub invariant_of-self-in-Ok : goal.invariant_of-self-in-Ok
invariant_of-self-in-Ok c =
    rw (c.push_reserved.ensures.items, c.reserve.ensures.items)
    (index-push c.self.inside.index.keys c.insert.new.self.keys c.self.inside.rows.items c.args.row c.self.invariant c.in-Ok.ensures.updates.0)
