use Rattle.run_model.proofs.FirstLimits.{first-unique, fixed-within}
use Rattle.run_model.proofs.run_laws.the_first_limit_is_unique.Goals as goal

pub returns-clause-unique : goal.returns-clause-unique
returns-clause-unique c = first-unique

pub returns-clause-none : goal.returns-clause-none
returns-clause-none c = fixed-within
