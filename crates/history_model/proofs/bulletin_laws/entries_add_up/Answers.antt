use Rattle.history_model.proofs.TellsBulletins.{delta-tells, more_entries-tell, no_entries-tell, one_entry-tells}
use Rattle.history_model.proofs.bulletin_laws.entries_add_up.Goals as goal

pub returns-clause-none : goal.returns-clause-none
returns-clause-none c = no_entries-tell

pub returns-clause-one : goal.returns-clause-one
returns-clause-one c = one_entry-tells

pub returns-clause-more : goal.returns-clause-more
returns-clause-more c = more_entries-tell

pub returns-clause-sum : goal.returns-clause-sum
returns-clause-sum c = delta-tells
