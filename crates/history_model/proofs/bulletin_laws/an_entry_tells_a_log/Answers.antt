use Rattle.history_model.proofs.TellsEntries.{entry-tells, log-noted}
use Rattle.history_model.proofs.bulletin_laws.an_entry_tells_a_log.Goals as goal

pub returns-clause-logs : goal.returns-clause-logs
returns-clause-logs c = log-noted

pub returns-clause-entry : goal.returns-clause-entry
returns-clause-entry c = entry-tells
