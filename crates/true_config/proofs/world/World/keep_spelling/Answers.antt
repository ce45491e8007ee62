use Rattle.std.proofs.Common.{subst}
use Rattle.history_model.specs.Story.{Story}
use Rattle.bulletin_streams.specs.Standing.{AreStreamsOf}
use Rattle.true_config.proofs.world.World.keep_spelling.Goals as goal

pub is_spellable-requires : goal.is_spellable-requires
is_spellable-requires c =
    let w = c.args.self.now in
    let streams = subst (λ (x : Story). AreStreamsOf x.cluster x.past c.self.inside.streams) c.self.view_is c.self.invariant.streams in
    c.bulletins_fit_the_wire.ensures w.cluster w.past c.args.origin c.args.number c.in-Some.bulletin.now c.is_lawful.ensures.within c.in-Some.ensures.ordered (c.in-Some.ensures.told w.cluster w.past streams)
