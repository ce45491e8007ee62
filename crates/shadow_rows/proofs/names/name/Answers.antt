use Rattle.shadow_rows.proofs.NamedLemmas.{extends-self}
use Rattle.shadow_rows.proofs.names.name.Goals as goal

pub returns-in-Some-clause-shadows : goal.returns-in-Some-clause-shadows
returns-in-Some-clause-shadows c = extends-self c.args.shadows.now
