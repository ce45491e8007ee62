use Rattle.replay_laws.proofs.Reports.{report-told}
use Rattle.replay_laws.proofs.a_report_is_a_journal_of_its_history.Goals as goal

pub returns : goal.returns
returns c = report-told
