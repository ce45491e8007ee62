use Rattle.std.proofs.Common.{rules, subst}
use Rattle.history_model.specs.Story.{Story}
use Rattle.true_config.specs.Readings.{IsNextFlush}
use Rattle.true_config.proofs.Readings.{next-flushed}
use Rattle.true_config.proofs.world.World.next_flush.Goals as goal

pub returns : goal.returns
returns c =
    let h = c.self.inside.history in
    subst (λ (x : Story). IsNextFlush x.cluster c.args.node x.past c.args.after c.next_flush.result) c.self.view_is
    (next-flushed h.cluster h.past c.self.inside.roster c.args.node c.args.after c.next_flush.result c.self.invariant.roster (search rules) (search rules))
