use Rattle.evidence_report.proofs.Following.{verdicts-other, verdicts-swept}
use Rattle.evidence_report.proofs.laws.verdicts_come_with_sweeps.Goals as goal

pub returns-clause-swept : goal.returns-clause-swept
returns-clause-swept c = verdicts-swept

pub returns-clause-other : goal.returns-clause-other
returns-clause-other c = verdicts-other
