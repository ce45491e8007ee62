use Rattle.std.proofs.Common.{◌∙◌, ap}
use Rattle.history_model.specs.Story.{Story}
use Rattle.history_model.specs.Live.{busy_count}
use Rattle.roster.proofs.Counting.{busy-total}
use Rattle.true_config.proofs.world.World.busy_count.Goals as goal

pub returns : goal.returns
returns c =
    let h = c.self.inside.history in
    c.from.ensures ∙ c.busy_count.ensures ∙ busy-total h.cluster h.past c.self.inside.roster c.self.invariant.roster ∙ ap (λ (x : Story). busy_count x.cluster x.past) c.self.view_is
