use Rattle.script_player.proofs.Begun.{seeds-halt}
use Rattle.script_player.proofs.beginning.begin_course.Goals as goal

pub returns-in-Err-clause-fault : goal.returns-in-Err-clause-fault
returns-in-Err-clause-fault c = seeds-halt c.args.script.now c.in-Err.fault c.in-Err.ensures.fault
