use Rattle.std.proofs.Common.{◌∙◌}
use Rattle.world_object.proofs.Starts.{seeds-more}
use Rattle.world_object.proofs.beginning.seed_all.Goals as goal

pub loop-seed-preserved : goal.loop-seed-preserved
loop-seed-preserved c =
    let more = seeds-more c.as_slice-seed-items.result.now c.loop-seed.seed-index c.seed-item.result c.loop-seed-test.true c.seed-item.is c.loop-seed.world.past c.birth.new.world.past c.loop-seed.actors c.in_ok-actor.actor
    c.loop-seed.invariant.past c.in_ok-actor.ensures.ok.past c.loop-seed.invariant.actors c.in_ok-actor.ensures.actor in
    record {
      cluster = c.in_ok-actor.ensures.ok.cluster ∙ c.loop-seed.invariant.cluster;
      past = more.0;
      actors = c.in_ok-push.ensures.ok ∙ more.1;
    }
