use Rattle.history_model.specs.Sweeps.{dead_at}
use Rattle.history_model.proofs.Stopped.{dead_at-quiet}
use Rattle.history_model.proofs.Supervision.{stopped-children, supervision}
use Rattle.history_model.proofs.laws.children_go_with_their_parents.Goals as goal

pub returns-clause-sets : goal.returns-clause-sets
returns-clause-sets c = λ cl h xs a b two legal quiet. supervision cl h xs two legal quiet a b

pub returns-clause-dead : goal.returns-clause-dead
returns-clause-dead c = λ cl m h a b two legal. supervision cl h (dead_at cl m h) two legal (dead_at-quiet cl m h legal) a b

pub returns-clause-stopped : goal.returns-clause-stopped
returns-clause-stopped c = λ cl h a b two legal stopped parent. stopped-children cl h two legal b a parent stopped
