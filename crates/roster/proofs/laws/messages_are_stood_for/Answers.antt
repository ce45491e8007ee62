use Rattle.roster.proofs.TableSteps.{stands-sent, stands-taken}
use Rattle.roster.proofs.laws.messages_are_stood_for.Goals as goal

pub returns-clause-taken : goal.returns-clause-taken
returns-clause-taken c = stands-taken

pub returns-clause-sent : goal.returns-clause-sent
returns-clause-sent c = stands-sent
