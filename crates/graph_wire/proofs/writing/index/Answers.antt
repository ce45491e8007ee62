use Rattle.graph_wire.proofs.Sorting.{index-found, index-missed}
use Rattle.graph_wire.proofs.writing.index.Goals as goal

pub returns-in-Ok-clause-value : goal.returns-in-Ok-clause-value
returns-in-Ok-clause-value c = index-found c.args.table.now c.args.actor c.in-Ok.found c.requires c.in-Ok.ensures.bound c.in-Ok.ensures.ok

pub returns-in-Err-clause-value : goal.returns-in-Err-clause-value
returns-in-Err-clause-value c = index-missed c.args.table.now c.args.actor c.in-Err.above c.requires c.in-Err.ensures.bound c.in-Err.ensures.position
