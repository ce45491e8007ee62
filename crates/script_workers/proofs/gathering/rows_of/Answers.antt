use Rattle.std.proofs.Common.{sym, subst, arith}
use Rattle.node_collectors.specs.Standing.{AreCollectorsAt}
use Rattle.script_workers.proofs.gathering.rows_of.Goals as goal

pub returns-then-len-nodes : goal.returns-then-len-nodes
returns-then-len-nodes c =
    subst (AreCollectorsAt c.args.world.now.cluster c.args.world.now.past) (sym c.of.ensures)
    (record { count = omega (arith, c.len.ensures, c.if-len-nodes.true, c.nodes.ensures); each = c.requires })
