use Rattle.std.proofs.Common.{◌-◌, length}
use Rattle.script_player.proofs.Walks.{IsWalkAt}
use Rattle.script_player.proofs.driver.Driver.carry_on_link.Given as goal

abbrev pub invariant-loop-number : goal.invariant-loop-number
invariant-loop-number l = IsWalkAt l.initial.self l.from l.at l.self

abbrev pub decreases-loop-number : goal.decreases-loop-number
decreases-loop-number l = 1000000 - length l.self.course.past
