use Rattle.std.proofs.Common.{◌≡◌, ◌-◌, ◌<◌, length, true, arith, rules, subst}
use Rattle.run_model.specs.Doing.{cluster_of}
use Rattle.script_player.specs.Standing.{IsTurnMade}
use Rattle.script_player.proofs.Schedules.{within-short}
use Rattle.script_player.proofs.driver.Driver.go_on.Goals as goal

pub loop-fault-smaller : goal.loop-fault-smaller
loop-fault-smaller c =
    let before = c.loop-fault.self in
    let carried = c.carry_all.new.self in
    let turned = c.turn.new.self in
    let yes_ : c.in-Ok-true.field-0 ≡ true = search rules in
    let made : IsTurnMade carried turned true = subst (λ v. IsTurnMade carried turned v) yes_ c.in-Ok-true.ensures.made in
    let longer = c.in-Ok.ensures.longer in
    let more = made.1 in
    let few = within-short (cluster_of turned.script.value) turned.course.past made.0.0.within in
    let smaller : 1000000 - length turned.course.past < 1000000 - length before.course.past = omega (arith, longer, more, few) in
    smaller
