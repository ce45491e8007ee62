use Rattle.std.proofs.Common.{rules, refl, subst, sym}
use Rattle.history_model.specs.declared.events.Event.TheVariants.{Wake}
use Rattle.true_config.specs.Steps.{MayFollow}
use Rattle.bulletin_streams.proofs.StandingLemmas.{silent-stands}
use Rattle.roster.proofs.TableSteps.{stands-woken}
use Rattle.true_config.proofs.Growing.{grows}
use Rattle.true_config.proofs.world.World.wake.Goals as goal

pub invariant_of-self-2 : goal.invariant_of-self-2
invariant_of-self-2 c =
    let e = Wake c.args.actor in
    let old = c.self.inside.history in
    let r = c.self.inside.roster in
    let q = c.wake.new.self in
    let s = c.self.inside.streams in
    grows e old c.push.new.self c.self.inside.traffic c.wake-2.new.self r q s s (record { cluster = c.push.ensures.cluster; past = c.in-Ok.ensures.ok })
    (subst (MayFollow e) (sym c.self.view_is) c.requires) (search rules) c.self.invariant
    (c.wake-2.ensures.kept old.cluster old.past) (stands-woken old.cluster c.args.actor old.past r q c.in-Ok-wake.ensures.ok) (silent-stands old.cluster e old.past s refl)
