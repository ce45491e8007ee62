use Rattle.std.proofs.Common.{◌∙◌, ap}
use Rattle.history_model.specs.Story.{Story}
use Rattle.history_model.specs.Streams.{can_flush}
use Rattle.roster.proofs.Counting.{news-due}
use Rattle.true_config.proofs.world.World.can_flush.Goals as goal

pub returns : goal.returns
returns c =
    let h = c.self.inside.history in
    c.can_flush.ensures ∙ news-due h.cluster h.past c.self.inside.roster c.self.invariant.roster c.args.actor ∙ ap (λ (x : Story). can_flush x.cluster c.args.actor x.past) c.self.view_is
