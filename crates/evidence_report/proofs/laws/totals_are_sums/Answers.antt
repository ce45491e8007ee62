use Rattle.evidence_report.proofs.Stopping.{stopped-born}
use Rattle.evidence_report.proofs.Totals.{births-within, stopped-summed, stopped-within}
use Rattle.evidence_report.proofs.laws.totals_are_sums.Goals as goal

pub returns-clause-stopped : goal.returns-clause-stopped
returns-clause-stopped c = stopped-summed

pub returns-clause-on_a_node : goal.returns-clause-on_a_node
returns-clause-on_a_node c = stopped-born

pub returns-clause-in_all : goal.returns-clause-in_all
returns-clause-in_all c = stopped-within

pub returns-clause-born : goal.returns-clause-born
returns-clause-born c = births-within
