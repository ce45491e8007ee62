use Rattle.std.proofs.Common.{rules}
use Rattle.true_config.proofs.Bounds.{stream-fits}
use Rattle.true_config.proofs.world.World.stream_len.Goals as goal

pub stream_len-requires : goal.stream_len-requires
stream_len-requires c = stream-fits c.self.inside.history.cluster c.self.inside.history.past c.self.inside.streams c.args.origin c.self.invariant.within c.self.invariant.streams (search rules)
