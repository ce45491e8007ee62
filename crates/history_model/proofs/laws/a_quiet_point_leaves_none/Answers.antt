use Rattle.history_model.proofs.Completeness.{completeness}
use Rattle.history_model.proofs.Stopped.{quiet-stopped}
use Rattle.history_model.proofs.laws.a_quiet_point_leaves_none.Goals as goal

pub returns-clause-dead : goal.returns-clause-dead
returns-clause-dead c = completeness

pub returns-clause-stopped : goal.returns-clause-stopped
returns-clause-stopped c = quiet-stopped
