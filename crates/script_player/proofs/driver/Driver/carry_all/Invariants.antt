use Rattle.script_player.proofs.Walks.{IsWalkAt}
use Rattle.script_player.proofs.driver.Driver.carry_all.Given as goal

abbrev pub invariant-loop-from : goal.invariant-loop-from
invariant-loop-from l = IsWalkAt l.initial.self l.from 0 l.self
