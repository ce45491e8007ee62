use Rattle.entry_records.specs.Log.{log_facts}
use Rattle.entry_records.proofs.LogLemmas.{entry-alike, entry-one, log-facts}
use Rattle.entry_records.proofs.laws.a_log_counts_what_is_noted.Goals as goal

pub returns-clause-more : goal.returns-clause-more
returns-clause-more c = λ l known more. log-facts known more l

pub returns-clause-entry : goal.returns-clause-entry
returns-clause-entry c = λ l known flags e is entry. entry-alike l.actor flags e (log_facts l) known is entry.tells

pub returns-clause-one : goal.returns-clause-one
returns-clause-one c = entry-one
