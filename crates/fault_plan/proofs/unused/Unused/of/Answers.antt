use Rattle.fault_plan.proofs.IndexLemmas.{kept-all}
use Rattle.fault_plan.proofs.unused.Unused.of.Goals as goal

pub returns : goal.returns
returns c = rw (← c.rows.view_is) (kept-all c.rows.inside.index.keys c.rows.inside.rows.items c.rows.invariant)
