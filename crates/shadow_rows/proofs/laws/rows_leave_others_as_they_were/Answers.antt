use Rattle.shadow_rows.proofs.TouchLemmas.{leaves-untouched}
use Rattle.shadow_rows.proofs.laws.rows_leave_others_as_they_were.Goals as goal

pub returns : goal.returns
returns c = leaves-untouched
