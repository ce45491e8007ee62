use Rattle.std.proofs.Common.{rules, refl, subst, sym}
use Rattle.history_model.specs.declared.events.Event.TheVariants.{Crash}
use Rattle.bulletin_streams.proofs.StandingLemmas.{silent-stands}
use Rattle.roster.proofs.TableSteps.{stands-crashed}
use Rattle.true_config.specs.Steps.{MayFollow}
use Rattle.true_config.proofs.Growing.{grows}
use Rattle.true_config.proofs.world.World.crash.Goals as goal

pub invariant_of-self-2 : goal.invariant_of-self-2
invariant_of-self-2 c =
    let e = Crash c.args.node in
    let old = c.self.inside.history in
    let r = c.self.inside.roster in
    let q = c.crash-2.new.self in
    let s = c.self.inside.streams in
    grows e old c.push.new.self c.self.inside.traffic c.crash.new.self r q s s (record { cluster = c.push.ensures.cluster; past = c.in-Ok.ensures.ok })
    (subst (MayFollow e) (sym c.self.view_is) c.requires) (search rules) c.self.invariant
    (c.crash.ensures.kept old.cluster old.past) (stands-crashed old.cluster c.args.node old.past r q c.crash-2.ensures) (silent-stands old.cluster e old.past s refl)
