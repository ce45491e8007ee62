use Rattle.std.proofs.Common.{rules, refl, subst, sym}
use Rattle.history_model.specs.declared.events.Event.TheVariants.{Hand}
use Rattle.true_config.specs.Steps.{MayFollow}
use Rattle.bulletin_streams.proofs.StandingLemmas.{silent-stands}
use Rattle.true_config.proofs.Growing.{grows-in_streams}
use Rattle.true_config.proofs.world.World.hand.Goals as goal

pub invariant_of-self-2 : goal.invariant_of-self-2
invariant_of-self-2 c =
    let e = Hand c.args.to c.args.origin c.args.number in
    let old = c.self.inside.history in
    let s = c.self.inside.streams in
    grows-in_streams e old c.push.new.self c.self.inside.traffic c.self.inside.roster s s (record { cluster = c.push.ensures.cluster; past = c.in-Ok.ensures.ok })
    (subst (MayFollow e) (sym c.self.view_is) c.requires) (search rules) c.self.invariant refl refl (silent-stands old.cluster e old.past s refl)
