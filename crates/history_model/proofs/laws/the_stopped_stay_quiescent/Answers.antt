use Rattle.history_model.proofs.Basics.{legal-before}
use Rattle.history_model.proofs.Stability.{quiescent-stays, stability}
use Rattle.history_model.proofs.Stopped.{stopped-quiescent}
use Rattle.history_model.proofs.laws.the_stopped_stay_quiescent.Goals as goal

pub returns-clause-stopped : goal.returns-clause-stopped
returns-clause-stopped c = λ cl q h a legal stopped. quiescent-stays cl q h a legal (stopped-quiescent cl h a (legal-before cl q h legal) stopped)

pub returns-clause-quiescent : goal.returns-clause-quiescent
returns-clause-quiescent c = quiescent-stays

pub returns-clause-sets : goal.returns-clause-sets
returns-clause-sets c = stability
