use Rattle.std.proofs.Common.{rules}
use Rattle.true_config.proofs.Bounds.{queue-fits}
use Rattle.true_config.proofs.world.World.queue_names_too_many.Goals as goal

pub names_too_many-requires : goal.names_too_many-requires
names_too_many-requires c = record { fits = queue-fits c.self.inside.history.cluster c.self.inside.history.past c.self.inside.streams c.args.node c.self.invariant.within c.self.invariant.streams (search rules) }
