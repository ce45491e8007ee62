use Rattle.std.proofs.Common.{List, sym, subst}
use Rattle.std.specs.Prelude.{IfErr, OnOk}
use Rattle.history_model.specs.declared.events.Event.{Event}
use Rattle.run_model.specs.Doing.{cluster_of}
use Rattle.run_model.specs.Planned.{ended}
use Rattle.script_player.specs.Making.{HaltsOn}
use Rattle.script_player.specs.Standing.{StandsAt}
use Rattle.script_player.proofs.Standings.{rounded-false, rounded-true}
use Rattle.script_player.proofs.driver.Driver.close_turn.Goals as goal

pub returns-then-ended-eq0-clause-made : goal.returns-then-ended-eq0-clause-made
returns-then-ended-eq0-clause-made c =
    let d = c.args.self.now in
    let count = c.ended.ensures.stands d.script.value d.course.past c.requires.progress in
    let same = rounded-true d.script.value (ended d.course.past) c.ended.result d.course.past count c.if-ended-eq0.true in
    subst (λ (h : List Event). OnOk c.round.result (StandsAt h c.round.new.self)) (sym same) c.round.ensures.made

pub returns-then-ended-eq0-clause-fault : goal.returns-then-ended-eq0-clause-fault
returns-then-ended-eq0-clause-fault c =
    let d = c.args.self.now in
    let count = c.ended.ensures.stands d.script.value d.course.past c.requires.progress in
    let same = rounded-true d.script.value (ended d.course.past) c.ended.result d.course.past count c.if-ended-eq0.true in
    subst (λ (h : List Event). IfErr c.round.result (HaltsOn (cluster_of d.script.value) h)) (sym same) c.round.ensures.fault

pub returns-clause-made : goal.returns-clause-made
returns-clause-made c =
    let d = c.args.self.now in
    let count = c.ended.ensures.stands d.script.value d.course.past c.requires.progress in
    (c.requires, sym (rounded-false d.script.value (ended d.course.past) c.ended.result d.course.past count c.if-ended-eq0.false))
