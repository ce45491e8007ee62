use Rattle.std.proofs.Common.{subst}
use Rattle.history_model.specs.Story.{Story}
use Rattle.traffic.specs.Readings.{IsNextWindow}
use Rattle.true_config.proofs.world.World.next_window.Goals as goal

pub returns : goal.returns
returns c =
    let h = c.self.inside.history in
    subst (λ (x : Story). IsNextWindow x.cluster c.args.at x.past c.next_window.result) c.self.view_is (c.next_window.ensures.stands h.cluster h.past c.self.invariant.traffic)
