use Rattle.roster.proofs.TableSteps.{stands-rested, stands-retired, stands-woken}
use Rattle.roster.proofs.laws.flags_are_stood_for.Goals as goal

pub returns-clause-woken : goal.returns-clause-woken
returns-clause-woken c = stands-woken

pub returns-clause-rested : goal.returns-clause-rested
returns-clause-rested c = stands-rested

pub returns-clause-retired : goal.returns-clause-retired
returns-clause-retired c = stands-retired
