use Rattle.history_model.proofs.Stopped.{stopped-unused}
use Rattle.history_model.proofs.Uses.{quiescent-unused}
use Rattle.history_model.proofs.laws.nobody_uses_the_quiescent.Goals as goal

pub returns-clause-quiescent : goal.returns-clause-quiescent
returns-clause-quiescent c = quiescent-unused

pub returns-clause-stopped : goal.returns-clause-stopped
returns-clause-stopped c = stopped-unused
