use Rattle.kept_marks.proofs.ChangeLemmas.{kept-touched}
use Rattle.kept_marks.proofs.laws.marks_stay_kept.Goals as goal

pub returns : goal.returns
returns c = kept-touched
