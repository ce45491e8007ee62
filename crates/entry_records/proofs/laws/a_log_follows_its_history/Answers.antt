use Rattle.history_model.specs.Streams.{flags_at, log}
use Rattle.entry_records.specs.Log.{log_facts}
use Rattle.entry_records.proofs.LogLemmas.{entry-alike, log-may_flush, log-step}
use Rattle.entry_records.proofs.laws.a_log_follows_its_history.Goals as goal

pub returns-clause-step : goal.returns-clause-step
returns-clause-step c = log-step

pub returns-clause-may : goal.returns-clause-may
returns-clause-may c = log-may_flush

pub returns-clause-tells : goal.returns-clause-tells
returns-clause-tells c = λ cl h l e at_h entry. entry-alike l.actor (flags_at l.actor h) e (log_facts l) (log cl l.actor h) at_h.facts entry.tells
