use Rattle.history_model.specs.Folds.{fold_to}
use Rattle.history_model.specs.Graph.{dead}
use Rattle.history_model.proofs.LinksSettled.{settled}
use Rattle.history_model.proofs.Soundness.{soundness}
use Rattle.history_model.proofs.laws.any_settled_nodes_may_stand_for_the_lost.Goals as goal

pub returns-clause-together : goal.returns-clause-together
returns-clause-together c = λ cl c lost h. soundness cl h c lost

pub returns-clause-each : goal.returns-clause-each
returns-clause-each c = λ cl c lost h a legal apart member. (dead cl lost (fold_to cl c h), member, soundness cl h c lost legal apart)

pub returns-clause-lost_nodes : goal.returns-clause-lost_nodes
returns-clause-lost_nodes c = λ cl c h legal. settled cl h legal c
