use Rattle.history_model.proofs.FoldSumsDead.{dead-member, dead-owners}
use Rattle.history_model.proofs.laws.the_evidence_of_a_stop.Goals as goal

pub returns-clause-balance : goal.returns-clause-balance
returns-clause-balance c = λ cl lost f a member. (dead-member cl lost f a member).balanced

pub returns-clause-owners : goal.returns-clause-owners
returns-clause-owners c = dead-owners
