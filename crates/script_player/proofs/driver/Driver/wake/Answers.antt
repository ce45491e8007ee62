use Rattle.std.proofs.Common.{◌≡◌, ◌∷◌, ◌<◌, List, length, None, refl, sym, subst, inl}
use Rattle.std.specs.Prelude.{IfErr}
use Rattle.history_model.specs.declared.events.Event.{Event}
use Rattle.history_model.specs.declared.events.Event.TheVariants.{Wake}
use Rattle.history_model.specs.Legal.{refusal}
use Rattle.history_model.specs.State.{is_root}
use Rattle.history_model.specs.Story.{Story}
use Rattle.behaviour_lang.specs.declared.code.Behaviour.{Behaviour}
use Rattle.run_model.specs.Doing.{cluster_of}
use Rattle.run_model.specs.Schedule.{whole_turn}
use Rattle.script_actors.specs.Table.{behaviour_at}
use Rattle.script_player.specs.Making.{HaltsOn}
use Rattle.script_player.proofs.Standings.{stands-next}
use Rattle.script_player.proofs.TurnWays.{begin-halts, turn-begun, wake-left, wake-planned, waker-idle}
use Rattle.script_player.proofs.driver.Driver.wake.Goals as goal

pub make-requires-clause-legal : goal.make-requires-clause-legal
make-requires-clause-legal c =
    let d = c.args.self.now in
    let legal = (wake-planned d.script.value d.course.past c.args.actor c.requires.next).1 in
    subst (λ cl. refusal cl (Wake c.args.actor) d.course.past ≡ None) (sym c.requires.between.0.cluster) legal

pub returns-in-Err-clause-fault : goal.returns-in-Err-clause-fault
returns-in-Err-clause-fault c =
    let d = c.args.self.now in
    begin-halts d.script.value c.args.actor (Wake c.args.actor) d.course.past d.course.cluster c.in-Err.fault c.requires.between.0.cluster
    c.in-Err.ensures.fault

pub wakes-requires-clause-left : goal.wakes-requires-clause-left
wakes-requires-clause-left c =
    let d = c.args.self.now in
    wake-left d.script.value d.course.past c.args.actor d.progress c.requires.between.0.progress c.requires.next

pub start-requires-clause-here : goal.start-requires-clause-here
start-requires-clause-here c =
    let d = c.args.self.now in
    let legal = (wake-planned d.script.value d.course.past c.args.actor c.requires.next).1 in
    let idle = waker-idle d c.args.actor c.requires.between legal in
    c.who_may_begin_a_turn.ensures.idle d.script.value d.course.past d.actors c.args.actor c.requires.between.0.actors idle.0 idle.1

pub start-requires-clause-in_code : goal.start-requires-clause-in_code
start-requires-clause-in_code c =
    let d = c.args.self.now in
    let legal = (wake-planned d.script.value d.course.past c.args.actor c.requires.next).1 in
    let idle = waker-idle d c.args.actor c.requires.between legal in
    subst (λ (code : List Behaviour). behaviour_at d.actors c.args.actor < length code) (sym c.requires.between.0.code)
    (c.who_may_begin_a_turn.ensures.in_code d.script.value d.course.past d.actors c.args.actor c.requires.between.0.actors idle.0)

pub finish_turn-requires : goal.finish_turn-requires
finish_turn-requires c =
    let d = c.args.self.now in
    let s = d.script.value in
    let h = d.course.past in
    let a = c.args.actor in
    let stands = c.requires.between.0 in
    let legal = (wake-planned s h a c.requires.next).1 in
    let d' = record d { course = c.make.new.course; progress = c.wakes.new.self; actors = c.start.new.self } in
    let at =
    stands-next d d' (Wake a ∷ h) stands refl refl refl c.in-Ok.ensures.ok.cluster c.in-Ok.ensures.ok.past c.in-Ok.ensures.within
    (c.start.ensures.woken s h stands.actors) (c.wakes.ensures.stands s h stands.progress) in
    turn-begun d d' a (Wake a) c.in-Ok-start.turn c.requires.between (inl refl) legal refl at
    (c.in-Ok-start.ensures.wake s h stands.actors refl c.new-refs.ensures
    (subst (λ (w : Story). c.is_root-root.result ≡ is_root a w.past) c.world.ensures c.is_root-root.ensures))

pub returns-in-Ok-start-clause-fault : goal.returns-in-Ok-start-clause-fault
returns-in-Ok-start-clause-fault c =
    let s = (let d = c.args.self.now in d.script.value) in
    subst (λ (h : List Event). IfErr c.finish_turn.result (HaltsOn (cluster_of s) (whole_turn s c.args.actor h))) c.in-Ok.ensures.ok.past
    c.finish_turn.ensures.fault
