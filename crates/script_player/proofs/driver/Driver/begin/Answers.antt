use Rattle.std.proofs.Common.{refl}
use Rattle.run_model.specs.Doing.{beginning}
use Rattle.script_player.proofs.Halting.{halts-scheduled}
use Rattle.script_player.proofs.driver.Driver.begin.Goals as goal

pub returns-in-Err-clause-fault : goal.returns-in-Err-clause-fault
returns-in-Err-clause-fault c = halts-scheduled c.args.script 0 (beginning c.args.script) c.in-Err.fault refl c.in-Err.ensures.fault
