use Rattle.std.proofs.Common.{◌≡◌, ◌∷◌, ◌<◌, ◌≤◌, List, length, None, refl, sym, subst, inr}
use Rattle.std.specs.Prelude.{IfErr}
use Rattle.crgc_ids.specs.Actor.{Actor}
use Rattle.history_model.specs.declared.events.Event.{Event}
use Rattle.history_model.specs.declared.events.Event.TheVariants.{Take}
use Rattle.history_model.specs.Legal.{refusal}
use Rattle.history_model.specs.State.{is_root}
use Rattle.history_model.specs.Story.{Story}
use Rattle.journal_model.specs.Lines.{AreWithinRanges}
use Rattle.behaviour_lang.specs.declared.code.Behaviour.{Behaviour}
use Rattle.run_model.specs.Doing.{cluster_of}
use Rattle.run_model.specs.Schedule.{whole_turn}
use Rattle.script_actors.specs.Table.{behaviour_at}
use Rattle.script_player.specs.Making.{HaltsOn}
use Rattle.script_player.proofs.Standings.{stands-next}
use Rattle.script_player.proofs.TurnWays.{begin-halts, budget-left, taken-few, taken-first, taker-idle, turn-begun}
use Rattle.script_player.proofs.driver.Driver.take.Goals as goal

pub make-requires-clause-legal : goal.make-requires-clause-legal
make-requires-clause-legal c =
    let d = c.args.self.now in
    subst (λ cl. refusal cl (Take c.args.actor) d.course.past ≡ None) (sym c.requires.between.0.cluster) c.requires.legal

pub takes-requires : goal.takes-requires
takes-requires c =
    let d = c.args.self.now in
    budget-left d.script.value d.course.past d.progress c.requires.between.0.progress c.requires.within

pub start-requires-clause-here : goal.start-requires-clause-here
start-requires-clause-here c =
    let d = c.args.self.now in
    let idle = taker-idle d c.args.actor c.requires.between c.requires.legal in
    c.who_may_begin_a_turn.ensures.idle d.script.value d.course.past d.actors c.args.actor c.requires.between.0.actors idle.0 idle.1

pub start-requires-clause-in_code : goal.start-requires-clause-in_code
start-requires-clause-in_code c =
    let d = c.args.self.now in
    let idle = taker-idle d c.args.actor c.requires.between c.requires.legal in
    subst (λ (code : List Behaviour). behaviour_at d.actors c.args.actor < length code) (sym c.requires.between.0.code)
    (c.who_may_begin_a_turn.ensures.in_code d.script.value d.course.past d.actors c.args.actor c.requires.between.0.actors idle.0)

pub start-requires-clause-refs : goal.start-requires-clause-refs
start-requires-clause-refs c =
    let d = c.args.self.now in
    let h = d.course.past in
    let same = taken-first c.args.actor h c.in-Ok.told c.refs_in-refs.result c.in-Ok.ensures.told c.refs_in-refs.ensures in
    let ranges = subst (λ (w : Story). AreWithinRanges w.past) c.world.ensures c.is_lawful.ensures.within.ranges in
    subst (λ (refs : List Actor). length refs ≤ 16) (sym same) (taken-few c.args.actor h ranges)

pub finish_turn-requires : goal.finish_turn-requires
finish_turn-requires c =
    let d = c.args.self.now in
    let s = d.script.value in
    let h = d.course.past in
    let a = c.args.actor in
    let stands = c.requires.between.0 in
    let d' = record d { course = c.make.new.course; progress = c.takes.new.self; actors = c.start.new.self } in
    let at =
    stands-next d d' (Take a ∷ h) stands refl refl refl c.in-Ok.ensures.ok.cluster c.in-Ok.ensures.ok.past c.in-Ok.ensures.within
    (c.start.ensures.taken s h stands.actors) (c.takes.ensures.stands s h a stands.progress) in
    let first = taken-first a h c.in-Ok.told c.refs_in-refs.result c.in-Ok.ensures.told c.refs_in-refs.ensures in
    turn-begun d d' a (Take a) c.in-Ok-start.turn c.requires.between (inr refl) c.requires.legal refl at
    (c.in-Ok-start.ensures.take s h stands.actors refl first
    (subst (λ (w : Story). c.is_root-root.result ≡ is_root a w.past) c.world-2.ensures c.is_root-root.ensures))

pub returns-in-Err-clause-fault : goal.returns-in-Err-clause-fault
returns-in-Err-clause-fault c =
    let d = c.args.self.now in
    begin-halts d.script.value c.args.actor (Take c.args.actor) d.course.past d.course.cluster c.in-Err.fault c.requires.between.0.cluster
    c.in-Err.ensures.fault

pub returns-in-Ok-start-clause-fault : goal.returns-in-Ok-start-clause-fault
returns-in-Ok-start-clause-fault c =
    let s = (let d = c.args.self.now in d.script.value) in
    subst (λ (h : List Event). IfErr c.finish_turn.result (HaltsOn (cluster_of s) (whole_turn s c.args.actor h))) c.in-Ok.ensures.ok.past
    c.finish_turn.ensures.fault
