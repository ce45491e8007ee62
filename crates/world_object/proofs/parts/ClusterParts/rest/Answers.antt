use Rattle.std.proofs.Common.{◌+◌, ◌<◌, ◌^◌, ◌∷◌, arith, length, option_to_list, refl, subst, sym}
use Rattle.history_model.specs.declared.events.Event.TheVariants.{Rest}
use Rattle.run_model.specs.Follows.{added}
use Rattle.script_actors.specs.Standing.{AreActorsAt}
use Rattle.script_progress.specs.Standing.{IsProgressAt}
use Rattle.script_progress.specs.Used.{HasRoom}
use Rattle.world_object.proofs.Effects.{happens-actors, happens-progress}
use Rattle.world_object.proofs.TurnEvents.{rested-stands}
use Rattle.world_object.proofs.parts.ClusterParts.rest.Goals as goal

pub ends-requires-clause-room : goal.ends-requires-clause-room
ends-requires-clause-room c =
    let old = c.args.self.now in
    let s = old.script.value in
    let h = old.world.past in
    let a = c.args.actor in
    let stands = c.requires.stands in
    let few = c.is_lawful.ensures.within.events in
    let short : length h + 1 < 2 ^ 32 = omega (arith, few) in
    subst (λ u. HasRoom u c.node.result) (sym (happens-progress (Rest a ∷ option_to_list (added s (Rest a) h)) old c.end.new.self c.in-Ok.ensures.ok))
    (c.counts_have_room.ensures s h old.progress c.node.result stands.progress short)

pub returns-in-Ok-clause-stands : goal.returns-in-Ok-clause-stands
returns-in-Ok-clause-stands c =
    let old = c.args.self.now in
    let mid = c.end.new.self in
    let s = old.script.value in
    let h = old.world.past in
    let a = c.args.actor in
    let stands = c.requires.stands in
    let es = Rest a ∷ option_to_list (added s (Rest a) h) in
    let happens = c.in-Ok.ensures.ok in
    let leave = c.other_events_leave_the_actors.ensures in
    let stay = c.other_events_leave_the_progress.ensures in
    let t = c.rest.new.self in
    let u = c.ends.new.self in
    rested-stands leave.other stay.other old mid (record mid { actors = t; progress = u }) stands a t u happens refl
    (c.rest.ensures.rested s h (subst (AreActorsAt s h) (sym (happens-actors es old mid happens)) stands.actors) c.requires.keeps)
    (c.ends.ensures.stands s h a (sym c.node.ensures) (subst (IsProgressAt s h) (sym (happens-progress es old mid happens)) stands.progress))
