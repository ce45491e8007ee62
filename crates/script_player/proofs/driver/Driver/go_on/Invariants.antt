use Rattle.std.proofs.Common.{◌≡◌, ◌-◌, length}
use Rattle.script_player.specs.Standing.{IsBetween}
use Rattle.script_player.proofs.driver.Driver.go_on.Given as goal

abbrev pub invariant-loop-fault : goal.invariant-loop-fault
invariant-loop-fault l = IsBetween l.self × (l.self.script.value ≡ l.initial.self.script.value)

abbrev pub decreases-loop-fault : goal.decreases-loop-fault
decreases-loop-fault l = 1000000 - length l.self.course.past
