use Rattle.std.proofs.Common.{rules, ◌+◌, length, refl, subst, sym, arith}
use Rattle.history_model.specs.declared.events.Event.TheVariants.{Take}
use Rattle.true_config.specs.Steps.{MayFollow}
use Rattle.bulletin_streams.proofs.StandingLemmas.{silent-stands}
use Rattle.roster.proofs.TableSteps.{stands-taken}
use Rattle.true_config.proofs.Bounds.{actor-has_room, first-waits, taken-short}
use Rattle.true_config.proofs.Growing.{grows}
use Rattle.true_config.proofs.world.World.take.Goals as goal

pub take-requires-clause-fits : goal.take-requires-clause-fits
take-requires-clause-fits c =
    let h = c.self.inside.history in
    let refs = c.as_slice.result.now in
    let first = first-waits h.cluster h.past c.self.inside.traffic c.args.actor refs c.self.invariant.traffic (search rules) in
    let short = taken-short c.args.actor h.past refs c.self.invariant.within.ranges first in
    actor-has_room h.cluster h.past c.self.inside.roster c.args.actor (1 + length refs) c.self.invariant.within c.self.invariant.roster (omega (arith, short))

pub invariant_of-self-2 : goal.invariant_of-self-2
invariant_of-self-2 c =
    let e = Take c.args.actor in
    let old = c.self.inside.history in
    let t = c.self.inside.traffic in
    let r = c.self.inside.roster in
    let q = c.take.new.self in
    let s = c.self.inside.streams in
    let refs = c.as_slice.result.now in
    let first = first-waits old.cluster old.past t c.args.actor refs c.self.invariant.traffic (search rules) in
    grows e old c.push.new.self t c.take-2.new.self r q s s (record { cluster = c.push.ensures.cluster; past = c.in-Ok.ensures.ok })
    (subst (MayFollow e) (sym c.self.view_is) c.requires) (search rules) c.self.invariant
    (c.take-2.ensures.kept old.cluster old.past) (stands-taken old.cluster c.args.actor old.past r q refs first c.in-Ok-take.ensures.ok) (silent-stands old.cluster e old.past s refl)
