use Rattle.script_player.proofs.Walks.{IsWalkAt}
use Rattle.script_player.proofs.driver.Driver.carry_from.Given as goal

abbrev pub invariant-loop-at : goal.invariant-loop-at
invariant-loop-at l = IsWalkAt l.initial.self l.from l.at l.self
