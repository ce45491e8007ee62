use Rattle.std.proofs.Common.{[], ◌∷◌, ◌<◌, ◌∙◌, subst, sym}
use Rattle.std.specs.Prelude.{IsSome}
use Rattle.history_model.specs.declared.events.Event.TheVariants.{Wake}
use Rattle.behaviour_lang.specs.declared.act.List.TheVariants as lists
use Rattle.script_actors.specs.Standing.{AreActorsAt}
use Rattle.script_actors.specs.Table.{names_at}
use Rattle.script_progress.specs.Standing.{IsProgressAt}
use Rattle.script_progress.specs.Used.{wakes_in}
use Rattle.world_object.proofs.Effects.{happens-actors, happens-progress, may-wake}
use Rattle.world_object.proofs.Openings.{names-there}
use Rattle.world_object.proofs.TurnEvents.{begun-stands, wake-halts, woke}
use Rattle.world_object.proofs.parts.ClusterParts.wake.Goals as goal

pub make-requires-clause-legal : goal.make-requires-clause-legal
make-requires-clause-legal c = (let may = may-wake c.args.self.now c.unwrap-actor.result (sym c.next_wake.ensures ∙ c.unwrap-actor.ensures) in may.legal)

pub begin_turn-requires : goal.begin_turn-requires
begin_turn-requires c =
    let old = c.args.self.now in
    let a = c.unwrap-actor.result in
    let stands = c.requires.stands in
    let may = may-wake old a (sym c.next_wake.ensures ∙ c.unwrap-actor.ensures) in
    subst (λ t. IsSome (names_at t a)) (sym (happens-actors (Wake a ∷ []) old c.make.new.self c.in-Ok.ensures.ok)) (names-there old.script.value old.world.past old.actors stands.actors a may.born may.idle)

pub returns-in-Ok-clause-stands : goal.returns-in-Ok-clause-stands
returns-in-Ok-clause-stands c =
    let old = c.args.self.now in
    let mid = c.make.new.self in
    let s = old.script.value in
    let h = old.world.past in
    let a = c.unwrap-actor.result in
    let stands = c.requires.stands in
    let happens = c.in-Ok.ensures.ok in
    begun-stands old mid c.begin_turn.new.self (Wake a) a lists.Wake c.new-refs.result c.is_root-root.result c.wakes.new.self c.begin_turn.result stands happens c.begin_turn.ensures
    (c.begin_turn.ensures.woken s h (subst (AreActorsAt s h) (sym (happens-actors (Wake a ∷ []) old mid happens)) stands.actors))
    (c.wakes.ensures.stands s h (subst (IsProgressAt s h) (sym (happens-progress (Wake a ∷ []) old mid happens)) stands.progress)) tt

pub returns-in-Ok-clause-ok : goal.returns-in-Ok-clause-ok
returns-in-Ok-clause-ok c =
    let old = c.args.self.now in
    let a = c.unwrap-actor.result in
    woke old c.make.new.self c.begin_turn.new.self a c.new-refs.result c.is_root-root.result c.wakes.new.self c.begin_turn.result c.requires.stands c.in-Ok.ensures.ok c.begin_turn.ensures c.is_root-root.ensures c.new-refs.ensures
    (sym c.next_wake.ensures ∙ c.unwrap-actor.ensures)

pub returns-clause-halt : goal.returns-clause-halt
returns-clause-halt c =
    let old = c.args.self.now in
    let a = c.unwrap-actor.result in
    let stands = c.requires.stands in
    let next = sym c.next_wake.ensures ∙ c.unwrap-actor.ensures in
    let may = may-wake old a next in
    wake-halts old a c.in-Err.halt (names-there old.script.value old.world.past old.actors stands.actors a may.born may.idle) next c.in-Err.ensures.halt

pub wakes-requires-clause-left : goal.wakes-requires-clause-left
wakes-requires-clause-left c =
    let old = c.args.self.now in
    let a = c.unwrap-actor.result in
    let stands = c.requires.stands in
    let progress = stands.progress in
    let may = may-wake old a (sym c.next_wake.ensures ∙ c.unwrap-actor.ensures) in
    subst (λ u. 0 < wakes_in u a) (sym (happens-progress (Wake a ∷ []) old c.make.new.self c.in-Ok.ensures.ok)) (subst (λ n. 0 < n) (sym (progress.wakes a)) may.left)
