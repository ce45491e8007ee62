use Rattle.std.proofs.Common.{sym, ◌∙◌, subst}
use Rattle.run_model.specs.Doing.{cluster_of}
use Rattle.run_model.specs.Schedule.{turn_done}
use Rattle.script_player.specs.Making.{HaltsOn}
use Rattle.script_player.specs.Standing.{DoesNext}
use Rattle.script_player.proofs.TurnWays.{act-halts, after-due, turn-acted, turn-acted_out, turn-under_way}
use Rattle.script_player.proofs.driver.Driver.act_all.Goals as goal

pub returns-in_default-clause-done : goal.returns-in_default-clause-done
returns-in_default-clause-done c =
    let d = c.loop-act.self in
    let turn = c.loop-act.invariant.0 in
    let told = c.in_ok-act.ensures d.script.value c.args.actor d.course.past (sym turn.stands.code) turn.stands.script.code turn.turn in
    turn-acted_out c.args.self.now.course.past c.args.actor d c.loop-act.turn c.next_act.new.turn turn
    (subst (λ v. DoesNext d.script.value c.args.actor d.course.past v c.next_act.new.turn) c.in_default.is told)

pub act-requires-clause-under : goal.act-requires-clause-under
act-requires-clause-under c = turn-under_way c.args.self.now.course.past c.args.actor c.loop-act.self c.loop-act.turn c.loop-act.invariant.0

pub loop-act-preserved : goal.loop-act-preserved
loop-act-preserved c =
    let d = c.loop-act.self in
    let turn = c.loop-act.invariant.0 in
    let told = c.in_ok-act.ensures d.script.value c.args.actor d.course.past (sym turn.stands.code) turn.stands.script.code turn.turn in
    let after = subst (λ v. DoesNext d.script.value c.args.actor d.course.past v c.next_act.new.turn) c.in-Some.is told in
    let next = after-due d.script.value c.args.actor d.course.past c.in-Some.act c.next_act.new.turn after in (
      turn-acted c.args.self.now.course.past c.args.actor d c.loop-act.turn turn c.in-Some.act next c.act.new.self c.act.new.turn c.act.ensures.script c.in-Ok.ensures.stands c.in-Ok.ensures.turn,
      c.act.ensures.script ∙ c.loop-act.invariant.1,
    )

pub returns-in-Err-clause-fault : goal.returns-in-Err-clause-fault
returns-in-Err-clause-fault c =
    let d = c.loop-act.self in
    let turn = c.loop-act.invariant.0 in
    let told = c.in_ok-act.ensures d.script.value c.args.actor d.course.past (sym turn.stands.code) turn.stands.script.code turn.turn in
    let after = subst (λ v. DoesNext d.script.value c.args.actor d.course.past v c.next_act.new.turn) c.in-Some.is told in
    let next = after-due d.script.value c.args.actor d.course.past c.in-Some.act c.next_act.new.turn after in
    subst (λ x. HaltsOn (cluster_of x) (turn_done x c.args.actor c.args.self.now.course.past) c.in-Err.fault) c.loop-act.invariant.1
    (act-halts c.args.self.now.course.past c.args.actor d c.loop-act.turn turn c.in-Some.act next c.in-Err.fault c.in-Err.ensures.fault)
