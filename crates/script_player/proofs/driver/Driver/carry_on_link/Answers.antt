use Rattle.std.proofs.Common.{◌≢◌, ◌∷◌, None, Some, subst, rules}
use Rattle.history_model.specs.Story.{Story}
use Rattle.traffic.specs.Readings.{IsHead}
use Rattle.run_model.specs.Planned.{carry}
use Rattle.script_player.specs.Reported.{IsRunFault}
use Rattle.script_player.proofs.Carries.{still-next}
use Rattle.script_player.proofs.Schedules.{one-carried}
use Rattle.script_player.proofs.Standings.{halts-next}
use Rattle.script_player.proofs.Walks.{walk-carried, walk-next}
use Rattle.script_player.proofs.driver.Driver.carry_on_link.Goals as goal

pub carry-requires-clause-next : goal.carry-requires-clause-next
carry-requires-clause-next c =
    let apart : c.args.from ≢ c.args.at = search rules in
    walk-next c.args.self.now c.loop-number.self c.args.from c.args.at c.in-Some.number c.loop-number.invariant c.requires.from c.requires.at apart
    (subst (λ (w : Story). IsHead c.args.from c.args.at w.past (Some c.in-Some.number)) c.world.ensures (c.in-Some.ensures.head apart))

pub loop-number-preserved : goal.loop-number-preserved
loop-number-preserved c =
    let apart : c.args.from ≢ c.args.at = search rules in
    let next = walk-next c.args.self.now c.loop-number.self c.args.from c.args.at c.in-Some.number c.loop-number.invariant c.requires.from c.requires.at apart
    (subst (λ (w : Story). IsHead c.args.from c.args.at w.past (Some c.in-Some.number)) c.world.ensures (c.in-Some.ensures.head apart)) in
    walk-carried c.args.self.now c.loop-number.self c.carry.new.self c.args.from c.args.at c.in-Some.number c.loop-number.invariant next c.carry.ensures.script c.carry.ensures.nodes c.in-Ok.ensures.made

pub returns-in-Err-clause-fault : goal.returns-in-Err-clause-fault
returns-in-Err-clause-fault c =
    let apart : c.args.from ≢ c.args.at = search rules in
    let d = c.loop-number.self in
    let s = d.script.value in
    let h = d.course.past in
    let e = carry s c.args.from c.args.at c.in-Some.number h in
    let next = walk-next c.args.self.now d c.args.from c.args.at c.in-Some.number c.loop-number.invariant c.requires.from c.requires.at apart
    (subst (λ (w : Story). IsHead c.args.from c.args.at w.past (Some c.in-Some.number)) c.world.ensures (c.in-Some.ensures.head apart)) in
    subst (λ x. IsRunFault x c.in-Err.fault) c.loop-number.invariant.1
    (halts-next s h (e ∷ h) c.in-Err.fault c.loop-number.invariant.0.1 (one-carried s h e next) c.in-Err.ensures.fault)

pub returns-clause-still : goal.returns-clause-still
returns-clause-still c =
    still-next c.loop-number.self.nodes c.args.from c.args.at c.loop-number.self.course.past c.loop-number.invariant.3
    (λ apart. subst (λ (w : Story). IsHead c.args.from c.args.at w.past None) c.world.ensures (c.in_default.ensures.head apart))
