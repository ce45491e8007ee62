use Rattle.roster.proofs.TableSteps.{stands-alike, stands-left}
use Rattle.roster.proofs.laws.other_events_leave_the_table.Goals as goal

pub returns-clause-before : goal.returns-clause-before
returns-clause-before c = stands-alike

pub returns-clause-other : goal.returns-clause-other
returns-clause-other c = stands-left
