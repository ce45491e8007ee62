use Rattle.script_player.proofs.Walks.{walk-done}
use Rattle.script_player.proofs.driver.Driver.carry_all.Goals as goal

pub returns-clause-done : goal.returns-clause-done
returns-clause-done c = walk-done c.args.self.now c.loop-from.self c.loop-from.from c.loop-from.invariant c.loop-from-test.false
