use Rattle.script_workers.proofs.Closes.{half-closed-all}
use Rattle.script_workers.proofs.runs.end_run.Goals as goal

pub returns-in-None-clause-fault : goal.returns-in-None-clause-fault
returns-in-None-clause-fault c = half-closed-all c.args.worked.world c.args.worked.halted c.close_run.result c.in-None.is c.close_run.ensures.fault
