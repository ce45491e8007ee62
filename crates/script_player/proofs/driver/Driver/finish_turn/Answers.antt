use Rattle.std.proofs.Common.{List, ◌∷◌, subst}
use Rattle.std.specs.Prelude.{IfErr, OnOk}
use Rattle.history_model.specs.declared.events.Event.{Event}
use Rattle.history_model.specs.declared.events.Event.TheVariants.{Rest}
use Rattle.run_model.specs.Doing.{cluster_of}
use Rattle.run_model.specs.Schedule.{ended_turn}
use Rattle.script_player.specs.Making.{HaltsOn}
use Rattle.script_player.specs.Standing.{StandsAt}
use Rattle.script_player.proofs.TurnWays.{acts-halt, whole-is}
use Rattle.script_player.proofs.driver.Driver.finish_turn.Goals as goal

pub returns-in-Err-clause-fault : goal.returns-in-Err-clause-fault
returns-in-Err-clause-fault c = acts-halt c.args.self.now.script.value c.args.actor c.args.self.now.course.past c.in-Err.fault c.in-Err.ensures.fault

pub returns-clause-made : goal.returns-clause-made
returns-clause-made c =
    subst (λ (h : List Event). OnOk c.end_turn.result (StandsAt h c.end_turn.new.self))
    (whole-is c.args.self.now c.act_all.new.self c.args.actor c.act_all.new.turn c.in-Ok.ensures.done c.act_all.ensures.script) c.end_turn.ensures.made

pub returns-clause-fault : goal.returns-clause-fault
returns-clause-fault c =
    let d = c.act_all.new.self in
    subst (λ (h : List Event). IfErr c.end_turn.result (HaltsOn (cluster_of c.args.self.now.script.value) h))
    (whole-is c.args.self.now d c.args.actor c.act_all.new.turn c.in-Ok.ensures.done c.act_all.ensures.script)
    (subst (λ x. IfErr c.end_turn.result (HaltsOn (cluster_of x) (ended_turn d.script.value (Rest c.args.actor ∷ d.course.past)))) c.act_all.ensures.script c.end_turn.ensures.fault)
