use Rattle.std.proofs.Common.{subst, sym}
use Rattle.node_collectors.specs.Standing.{AreCollectorsAt}
use Rattle.collector_tests.proofs.courses.verdict_of.Goals as goal

pub let_go-requires : goal.let_go-requires
let_go-requires c =
    let w = c.in_ok-world.world in
    subst (λ p. AreCollectorsAt w.cluster p c.in_ok-collectors.collectors) (sym c.in_ok-world.ensures.past)
    (c.in_ok-collectors.ensures w.cluster c.in_ok-world.ensures.nodes)
