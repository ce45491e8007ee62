use Rattle.std.proofs.Common.{rules, refl, subst, sym}
use Rattle.history_model.specs.declared.events.Event.TheVariants.{Rest}
use Rattle.history_model.specs.Legal.{checks}
use Rattle.history_model.proofs.Basics.{first_broken-none}
use Rattle.true_config.specs.Steps.{MayFollow}
use Rattle.bulletin_streams.proofs.StandingLemmas.{silent-stands}
use Rattle.roster.proofs.TableSteps.{stands-alike, stands-rested}
use Rattle.traffic.proofs.KeepingActors.{rest-undone}
use Rattle.true_config.proofs.Growing.{grows, stays, taken-back}
use Rattle.true_config.proofs.world.World.rest.Goals as goal

pub invariant_of-self-in-Ok-rest-2 : goal.invariant_of-self-in-Ok-rest-2
invariant_of-self-in-Ok-rest-2 c =
    let e = Rest c.args.actor in
    let old = c.self.inside.history in
    let t = c.self.inside.traffic in
    let r = c.self.inside.roster in
    let q = c.rest-2.new.self in
    let s = c.self.inside.streams in
    grows e old c.push.new.self t c.rest.new.self r q s s (record { cluster = c.push.ensures.cluster; past = c.in-Ok.ensures.ok })
    (subst (MayFollow e) (sym c.self.view_is) c.requires) (search rules) c.self.invariant
    (c.in-Ok-rest.ensures.kept old.cluster old.past) (stands-rested old.cluster c.args.actor old.past r q c.in-Ok-rest-2.ensures.ok) (silent-stands old.cluster e old.past s refl)

pub invariant_of-self-in_default-rest-2 : goal.invariant_of-self-in_default-rest-2
invariant_of-self-in_default-rest-2 c =
    let e = Rest c.args.actor in
    let old = c.self.inside.history in
    let t = c.self.inside.traffic in
    let r = c.self.inside.roster in
    let s = c.self.inside.streams in
    let may = subst (MayFollow e) (sym c.self.view_is) c.requires in
    let busy = (first_broken-none (checks old.cluster e old.past) may.legal).1.1.0 in
    stays old c.take_back-in_default-rest-2.new.self t c.wake.new.self r c.rest-2.new.self s s
    (taken-back e old c.push.new.self c.take_back-in_default-rest-2.new.self (record { cluster = c.push.ensures.cluster; past = c.in-Ok.ensures.ok }) c.take_back-in_default-rest-2.ensures.cluster c.take_back-in_default-rest-2.ensures.past)
    c.self.invariant
    (rest-undone old.cluster old.past c.args.actor t c.rest.new.self c.wake.new.self busy c.in-Ok-rest.ensures.ok c.wake.ensures.change)
    (stands-alike old.cluster old.past r c.rest-2.new.self c.in_default-rest-2.ensures.err)
    (λ x. x)
