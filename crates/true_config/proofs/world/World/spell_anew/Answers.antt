use Rattle.true_config.proofs.world.World.spell_anew.Goals as goal

pub is_spellable-requires : goal.is_spellable-requires
is_spellable-requires c =
    let w = c.args.self.now in
    c.bulletins_fit_the_wire.ensures w.cluster w.past c.args.origin c.args.number c.in-Some.bulletin.now c.is_lawful.ensures.within c.in-Some.ensures.ordered c.in-Some.ensures.told
