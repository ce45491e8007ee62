use Rattle.shadow_rows.proofs.StandsLemmas.{counts-moved}
use Rattle.shadow_rows.proofs.laws.corrections_lose_a_node.Goals as goal

pub returns : goal.returns
returns c = counts-moved
