use Rattle.history_model.specs.Sweeps.{dead_at}
use Rattle.history_model.proofs.Stopped.{dead_at-quiet}
use Rattle.history_model.proofs.laws.the_dead_are_quiescent.Goals as goal

pub returns-clause-together : goal.returns-clause-together
returns-clause-together c = dead_at-quiet

pub returns-clause-each : goal.returns-clause-each
returns-clause-each c = λ cl m h a legal member. (dead_at cl m h, member, dead_at-quiet cl m h legal)
