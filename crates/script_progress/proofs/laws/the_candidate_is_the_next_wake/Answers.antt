use Rattle.script_progress.proofs.Steps.{may-wake, next-none, next-some}
use Rattle.script_progress.proofs.laws.the_candidate_is_the_next_wake.Goals as goal

pub returns-clause-some : goal.returns-clause-some
returns-clause-some c = next-some

pub returns-clause-none : goal.returns-clause-none
returns-clause-none c = next-none

pub returns-clause-may : goal.returns-clause-may
returns-clause-may c = may-wake
