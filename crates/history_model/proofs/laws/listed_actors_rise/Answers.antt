use Rattle.history_model.proofs.FoldSumsRising.{dead-rise, known-rise, owners-rise, stopped-rise}
use Rattle.history_model.proofs.laws.listed_actors_rise.Goals as goal

pub returns-clause-known : goal.returns-clause-known
returns-clause-known c = known-rise

pub returns-clause-dead : goal.returns-clause-dead
returns-clause-dead c = dead-rise

pub returns-clause-stopped : goal.returns-clause-stopped
returns-clause-stopped c = stopped-rise

pub returns-clause-owners : goal.returns-clause-owners
returns-clause-owners c = owners-rise
