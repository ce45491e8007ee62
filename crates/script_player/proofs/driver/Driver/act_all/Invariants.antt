use Rattle.std.proofs.Common.{◌≡◌, ◌-◌, length}
use Rattle.script_player.specs.Standing.{IsInTurn}
use Rattle.script_player.proofs.driver.Driver.act_all.Given as goal

abbrev pub invariant-loop-act : goal.invariant-loop-act
invariant-loop-act l = IsInTurn l.initial.self.course.past l.actor l.self l.turn × (l.self.script.value ≡ l.initial.self.script.value)

abbrev pub decreases-loop-act : goal.decreases-loop-act
decreases-loop-act l = 1000000 - length l.self.course.past
