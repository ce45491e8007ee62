use Rattle.std.proofs.Common.{subst, sym}
use Rattle.node_collectors.specs.Standing.{AreCollectorsAt}
use Rattle.cluster_tests.proofs.rounds.course_of_parts.Goals as goal

pub of-requires-clause-collectors : goal.of-requires-clause-collectors
of-requires-clause-collectors c =
    let w = c.in_ok-world.world in
    subst (λ p. AreCollectorsAt w.cluster p c.in_ok-collectors.collectors) (sym c.in_ok-world.ensures.past)
    (c.in_ok-collectors.ensures w.cluster c.in_ok-world.ensures.nodes)
