use Rattle.script_progress.proofs.Steps.{round-events}
use Rattle.script_progress.proofs.laws.other_events_leave_the_progress.Goals as goal

pub returns-clause-round : goal.returns-clause-round
returns-clause-round c = round-events
