use Rattle.std.proofs.Common.{◌∙◌, ap}
use Rattle.history_model.specs.Story.{Story}
use Rattle.roster.specs.Standing.{stopped_at}
use Rattle.roster.proofs.Counting.{stopped-counted}
use Rattle.true_config.proofs.world.World.stopped.Goals as goal

pub returns : goal.returns
returns c =
    let h = c.self.inside.history in
    c.stopped.ensures ∙ stopped-counted h.cluster h.past c.self.inside.roster c.self.invariant.roster c.args.node ∙ ap (λ (x : Story). stopped_at x.cluster c.args.node x.past) c.self.view_is
