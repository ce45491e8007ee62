use Rattle.history_model.proofs.LinksLost.{lost-grows, lost_at-grows}
use Rattle.history_model.proofs.laws.lost_nodes_only_grow.Goals as goal

pub returns-clause-folds : goal.returns-clause-folds
returns-clause-folds c = λ cl q h c more n longer. lost-grows cl q h c more longer n

pub returns-clause-at_a_node : goal.returns-clause-at_a_node
returns-clause-at_a_node c = lost_at-grows
