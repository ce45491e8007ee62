use Rattle.std.proofs.Common.{subst}
use Rattle.history_model.specs.Story.{Story}
use Rattle.traffic.specs.Readings.{IsNextRemoval}
use Rattle.true_config.proofs.world.World.next_removal.Goals as goal

pub returns : goal.returns
returns c =
    let h = c.self.inside.history in
    subst (λ (x : Story). IsNextRemoval x.cluster c.args.at x.past c.next_removal.result) c.self.view_is (c.next_removal.ensures.stands h.cluster h.past c.self.invariant.traffic)
