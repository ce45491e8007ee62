use Rattle.std.proofs.Common.{List, subst}
use Rattle.std.specs.Prelude.{OnOk}
use Rattle.history_model.specs.declared.events.Event.{Event}
use Rattle.history_model.specs.declared.events.Event.TheVariants.{Rest}
use Rattle.script_player.specs.Standing.{StandsAt}
use Rattle.script_player.proofs.TurnWays.{crash-halts, end-is, rest-halts}
use Rattle.script_player.proofs.driver.Driver.end_turn.Goals as goal

pub returns-in-Err-clause-fault : goal.returns-in-Err-clause-fault
returns-in-Err-clause-fault c = rest-halts c.args.self.now.script.value (Rest c.args.actor) c.args.self.now.course.past c.in-Err.fault c.in-Err.ensures.fault

pub returns-in-Ok-crash-clause-made : goal.returns-in-Ok-crash-clause-made
returns-in-Ok-crash-clause-made c =
    subst (λ (h : List Event). OnOk c.close_turn.result (StandsAt h c.close_turn.new.self))
    (end-is c.args.self.now c.rest.new.self c.crash.new.self c.args.actor c.in-Ok.ensures.rested c.rest.ensures.script c.crash.ensures.script c.in-Ok-crash.ensures.made.1)
    c.close_turn.ensures.made

pub returns-in-Err-crash-clause-fault : goal.returns-in-Err-crash-clause-fault
returns-in-Err-crash-clause-fault c =
    crash-halts c.args.self.now c.rest.new.self c.args.actor c.in-Err-crash.fault c.in-Ok.ensures.rested c.rest.ensures.script c.in-Err-crash.ensures.fault
