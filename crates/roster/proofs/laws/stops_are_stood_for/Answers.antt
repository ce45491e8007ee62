use Rattle.roster.proofs.SweepSteps.{stands-swept, stopped-here}
use Rattle.roster.proofs.laws.stops_are_stood_for.Goals as goal

pub returns-clause-swept : goal.returns-clause-swept
returns-clause-swept c = stands-swept

pub returns-clause-here : goal.returns-clause-here
returns-clause-here c = stopped-here
