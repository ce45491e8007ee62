use Rattle.std.proofs.Common.{refl}
use Rattle.history_model.specs.declared.events.Event.TheVariants.{Admit}
use Rattle.world_object.proofs.TurnEvents.{quiet-stands}
use Rattle.world_object.proofs.parts.ClusterParts.admit.Goals as goal

pub returns-in-Ok-clause-stands : goal.returns-in-Ok-clause-stands
returns-in-Ok-clause-stands c =
    let leave = c.other_events_leave_the_actors.ensures in
    let stay = c.other_events_leave_the_progress.ensures in
    quiet-stands leave.other stay.other c.args.self.now c.make.new.self (Admit c.args.from c.args.at c.args.number) c.requires.stands refl refl tt c.in-Ok.ensures.ok
