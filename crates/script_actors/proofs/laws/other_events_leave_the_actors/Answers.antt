use Rattle.script_actors.proofs.Standings.{round-events}
use Rattle.script_actors.proofs.laws.other_events_leave_the_actors.Goals as goal

pub returns-clause-round : goal.returns-clause-round
returns-clause-round c = round-events
