use Rattle.evidence_report.proofs.Stopping.{stopped-once}
use Rattle.evidence_report.proofs.laws.each_actor_is_stopped_once.Goals as goal

pub returns : goal.returns
returns c = stopped-once
