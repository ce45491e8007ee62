use Rattle.std.proofs.Common.{subst}
use Rattle.edge_table.specs.Table.{HasEnds}
use Rattle.collector_tests.proofs.edges.number.Goals as goal

pub number_of-requires-clause-ends : goal.number_of-requires-clause-ends
number_of-requires-clause-ends c =
    let owner = c.in_ok-actor.field-0 in
    let target = c.in_ok-actor-2.field-0 in
    let from = c.in_ok-actor.ensures in
    let to = c.in_ok-actor-2.ensures in
    subst (λ p. HasEnds c.args.table.now owner target p c.args.target) from.serial
    (subst (λ q. HasEnds c.args.table.now owner target owner.serial q) to.serial (c.requires owner target from.node to.node))
