use Rattle.std.proofs.Common.{◌∷◌, [], subst}
use Rattle.world_object.specs.Answering.{Happens}
use Rattle.world_object.proofs.Effects.{kept-or}
use Rattle.world_object.proofs.TurnEvents.{act-few, act-no_sweep, acted-stands}
use Rattle.world_object.proofs.parts.ClusterParts.act_plainly.Goals as goal

pub make-requires-clause-no_sweep : goal.make-requires-clause-no_sweep
make-requires-clause-no_sweep c = (let plain = c.requires.plain in act-no_sweep c.args.actor plain.act c.args.event.now plain.is)

pub make-requires-clause-few : goal.make-requires-clause-few
make-requires-clause-few c = (let plain = c.requires.plain in act-few c.args.self.now c.requires.stands c.args.actor plain.act c.args.event.now plain.next plain.is)

pub returns-clause-stands : goal.returns-clause-stands
returns-clause-stands c =
    let old = c.args.self.now in
    let new = c.make.new.self in
    let e = c.args.event.now in
    let plain = c.requires.plain in
    let leave = c.acts_leave_the_actors.ensures in
    let stay = c.other_events_leave_the_progress.ensures in
    kept-or (Happens (e ∷ []) old new) old new c.make.result c.make.ensures.ok c.make.ensures.err c.requires.stands
    (λ happens. acted-stands (record { sends = leave.sends; drops = leave.drops; retires = leave.retires }) stay.other old c.requires.stands c.args.actor new plain.act plain.next plain.childless
    (subst (λ x. Happens (x ∷ []) old new) plain.is happens))
