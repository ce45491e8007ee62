use Rattle.std.proofs.Common.{Ok, subst, sym}
use Rattle.true_config.specs.Applying.{OnDone}
use Rattle.true_config.specs.Steps.{Adds}
use Rattle.node_collectors.specs.Standing.{AreCollectorsAt}
use Rattle.collector_tests.proofs.courses.follow.Goals as goal

pub returns : goal.returns
returns c =
    let old = c.args.world.now in
    let new = c.apply.new.self in
    let e = c.args.event.now in
    let cs = c.args.collectors.now in
    let adds : Adds e old new = subst (λ x. OnDone (Ok x) (Adds e old new)) c.in-Done.is c.in_ok-apply.ensures.done in
    subst (λ cl. AreCollectorsAt cl new.past cs) (sym adds.cluster)
    (subst (λ p. AreCollectorsAt old.cluster p cs) (sym adds.past)
    (c.collectors_follow_events.ensures old.cluster old.past e cs c.requires.other c.requires.stand))
