use Rattle.kept_marks.proofs.ChangeLemmas.{nothing-kept}
use Rattle.kept_marks.proofs.laws.nothing_is_kept.Goals as goal

pub returns : goal.returns
returns c = nothing-kept
