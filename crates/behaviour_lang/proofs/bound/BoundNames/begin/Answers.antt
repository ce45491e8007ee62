use Rattle.std.proofs.Common.{◌++◌, ap}
use Rattle.behaviour_lang.specs.Bound.{Names, local_names}
use Rattle.behaviour_lang.proofs.HeldLaws.{flagged-all}
use Rattle.behaviour_lang.proofs.bound.BoundNames.begin.Goals as goal

pub returns : goal.returns
returns c = ap (λ (names : Names). names ++ local_names c.args.locals) (flagged-all 16 0 c.args.refs c.requires)
