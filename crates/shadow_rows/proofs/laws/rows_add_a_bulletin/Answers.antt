use Rattle.shadow_rows.proofs.StandsLemmas.{counts-added, logs-added}
use Rattle.shadow_rows.proofs.laws.rows_add_a_bulletin.Goals as goal

pub returns-clause-counts : goal.returns-clause-counts
returns-clause-counts c = counts-added

pub returns-clause-log : goal.returns-clause-log
returns-clause-log c = logs-added
