use Rattle.history_model.proofs.FoldSumsReached.{dead-unreached}
use Rattle.history_model.proofs.laws.the_dead_are_the_unreached.Goals as goal

pub returns : goal.returns
returns c = dead-unreached
