use Rattle.shadow_rows.proofs.NamedLemmas.{extends-self}
use Rattle.shadow_rows.proofs.names.name_after.Goals as goal

pub returns-then-eq-clause-shadows : goal.returns-then-eq-clause-shadows
returns-then-eq-clause-shadows c = extends-self c.args.shadows.now
