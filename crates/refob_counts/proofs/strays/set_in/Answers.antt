use Rattle.refob_counts.proofs.CountsLemmas.{count_change}
use Rattle.refob_counts.proofs.strays.set_in.Goals as goal

pub returns-in-Ok-clause-ok : goal.returns-in-Ok-clause-ok
returns-in-Ok-clause-ok c = count_change _ _ c.args.target _ c.in-Ok.ensures.updates.1 c.in-Ok.ensures.updates.2
