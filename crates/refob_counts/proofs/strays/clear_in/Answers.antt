use Rattle.refob_counts.proofs.CountsLemmas.{count_change}
use Rattle.refob_counts.proofs.strays.clear_in.Goals as goal

pub returns : goal.returns
returns c = count_change _ _ c.args.target _ c.remove.ensures.updates.1 c.remove.ensures.updates.2
