use Rattle.std.proofs.Common.{refl, subst, sym}
use Rattle.history_model.specs.declared.events.Event.TheVariants.{Repeat}
use Rattle.script_progress.specs.Standing.{IsProgressAt}
use Rattle.std.proofs.Common.{[], ◌∷◌}
use Rattle.world_object.proofs.Effects.{happens-progress}
use Rattle.world_object.proofs.TurnEvents.{carried-stands}
use Rattle.world_object.proofs.parts.ClusterParts.repeat.Goals as goal

pub returns-in-Ok-clause-stands : goal.returns-in-Ok-clause-stands
returns-in-Ok-clause-stands c =
    let old = c.args.self.now in
    let mid = c.make.new.self in
    let e = Repeat c.args.from c.args.at c.args.number in
    let u = c.repeats.new.self in
    let happens = c.in-Ok.ensures.ok in
    let leave = c.other_events_leave_the_actors.ensures in
    let progress = c.requires.stands in
    carried-stands leave.other old mid (record mid { progress = u }) c.requires.stands e u happens refl refl tt
    (c.repeats.ensures.stands old.script.value old.world.past (subst (IsProgressAt old.script.value old.world.past) (sym (happens-progress (e ∷ []) old mid happens)) progress.progress))
