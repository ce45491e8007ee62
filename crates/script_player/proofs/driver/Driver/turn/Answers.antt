use Rattle.std.proofs.Common.{◌≡◌, ◌∷◌, None, Some, true, sym, ◌∙◌, subst}
use Rattle.history_model.specs.declared.events.Event.TheVariants.{Take, Wake}
use Rattle.history_model.specs.Story.{Story}
use Rattle.traffic.specs.Readings.{IsNextReady}
use Rattle.run_model.specs.Schedule.{one_more, whole_turn}
use Rattle.script_player.specs.declared.driver.Driver.{Driver}
use Rattle.script_player.specs.Reported.{IsRunFault}
use Rattle.script_player.specs.Standing.{IsTurnMade}
use Rattle.script_player.proofs.Ranges.{between-legal}
use Rattle.script_player.proofs.Standings.{halts-next}
use Rattle.script_player.proofs.Takes.{first-ready}
use Rattle.script_player.proofs.TurnWays.{IsTurnNext, turn-made, turn-none, turn-taken, turn-woken}
use Rattle.script_player.proofs.driver.Driver.turn.Goals as goal
use Rattle.script_player.proofs.driver.Driver.turn.Goals.{After-take, After-wake}

pub take-requires-clause-legal : goal.take-requires-clause-legal
take-requires-clause-legal c =
    let d = c.args.self.now in
    let next = subst (λ (w : Story). IsNextReady w.past None (Some c.in-Some.actor)) c.world.ensures c.in-Some.ensures in
    (first-ready d.script.value d.course.past (between-legal d c.requires.between) c.in-Some.actor next).0

-- a turn of the actor that takes a message is the next thing
taken : (c : After-take) → IsTurnNext c.args.self.now c.in-Some.actor (Take c.in-Some.actor)
taken c =
    let d = c.args.self.now in
    let budget = c.is_within_budget.ensures.stands d.script.value d.course.past c.requires.between.0.progress in
    let within = sym budget ∙ c.if-not-is_within_budget.false in
    let next = subst (λ (w : Story). IsNextReady w.past None (Some c.in-Some.actor)) c.world.ensures c.in-Some.ensures in
    turn-taken d c.in-Some.actor (c.requires.between, c.requires.carried, within) next

pub returns-in-Ok-clause-made : goal.returns-in-Ok-clause-made
returns-in-Ok-clause-made c =
    let more = taken (goal.at.returns-in-Ok-clause-made c).After-take in
    turn-made c.args.self.now c.take.new.self c.in-Some.actor (Take c.in-Some.actor) c.requires.between more c.take.ensures.script
    c.in-Ok.ensures.made

pub returns-in-Err-clause-fault : goal.returns-in-Err-clause-fault
returns-in-Err-clause-fault c =
    let d = c.args.self.now in
    let a = c.in-Some.actor in
    let more = taken (goal.at.returns-in-Err-clause-fault c).After-take in
    halts-next d.script.value d.course.past (whole_turn d.script.value a (Take a ∷ d.course.past)) c.in-Err.fault c.requires.between.1 more
    c.in-Err.ensures.fault

pub returns-in_default-next_wake-clause-made : goal.returns-in_default-next_wake-clause-made
returns-in_default-next_wake-clause-made c =
    let d = c.args.self.now in
    let budget = c.is_within_budget.ensures.stands d.script.value d.course.past c.requires.between.0.progress in
    let within = sym budget ∙ c.if-not-is_within_budget.false in
    let none = subst (λ (w : Story). IsNextReady w.past None None) c.world.ensures c.in_default.ensures in
    let more = turn-none d (c.requires.between, c.requires.carried, within) none (sym c.in_default-next_wake.ensures.next) in
    let here = subst (λ (x : Driver). one_more x.script.value x.course.past ≡ None) (sym c.next_wake.ensures.others) more in
    (c.next_wake.ensures.between, here)

-- and so is one of the actor that is woken, as the driver stands after the search
woken : (c : After-wake) → IsTurnNext c.next_wake.new.self c.in-Some-next_wake.actor (Wake c.in-Some-next_wake.actor)
woken c =
    let d = c.args.self.now in
    let a = c.in-Some-next_wake.actor in
    let budget = c.is_within_budget.ensures.stands d.script.value d.course.past c.requires.between.0.progress in
    let within = sym budget ∙ c.if-not-is_within_budget.false in
    let none = subst (λ (w : Story). IsNextReady w.past None None) c.world.ensures c.in_default.ensures in
    let more = turn-woken d a (c.requires.between, c.requires.carried, within) none (sym c.in-Some-next_wake.ensures.next) in
    subst (λ (x : Driver). IsTurnNext x a (Wake a)) (sym c.next_wake.ensures.others) more

pub returns-in-Ok-wake-clause-made : goal.returns-in-Ok-wake-clause-made
returns-in-Ok-wake-clause-made c =
    let a = c.in-Some-next_wake.actor in
    let more = woken (goal.at.returns-in-Ok-wake-clause-made c).After-wake in
    subst (λ (x : Driver). IsTurnMade x c.wake.new.self true) c.next_wake.ensures.others
    (turn-made c.next_wake.new.self c.wake.new.self a (Wake a) c.next_wake.ensures.between more c.wake.ensures.script c.in-Ok-wake.ensures.made)

pub returns-in-Err-wake-clause-fault : goal.returns-in-Err-wake-clause-fault
returns-in-Err-wake-clause-fault c =
    let d = c.next_wake.new.self in
    let s = d.script.value in
    let h = d.course.past in
    let a = c.in-Some-next_wake.actor in
    let more = woken (goal.at.returns-in-Err-wake-clause-fault c).After-wake in
    let whole = whole_turn s a (Wake a ∷ h) in
    subst (λ (x : Driver). IsRunFault x.script.value c.in-Err-wake.fault) c.next_wake.ensures.others
    (halts-next s h whole c.in-Err-wake.fault c.next_wake.ensures.between.1 more c.in-Err-wake.ensures.fault)
