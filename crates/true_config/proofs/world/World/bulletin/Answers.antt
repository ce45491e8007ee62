use Rattle.std.proofs.Common.{subst}
use Rattle.history_model.specs.Story.{Story}
use Rattle.bulletin_streams.specs.Standing.{AreStreamsOf}
use Rattle.true_config.proofs.Readings.{if_some-writable}
use Rattle.true_config.proofs.world.World.bulletin.Goals as goal

pub returns-clause-writable : goal.returns-clause-writable
returns-clause-writable c =
    let w = c.args.self.now in
    let streams = subst (λ (x : Story). AreStreamsOf x.cluster x.past c.self.inside.streams) c.self.view_is c.self.invariant.streams in
    if_some-writable (λ b. b.now) w.cluster w.past c.args.origin c.args.number c.bulletin.result c.is_lawful.ensures.within c.bulletins_fit_the_wire.ensures c.bulletin.ensures.ordered (c.bulletin.ensures.told w.cluster w.past streams)
