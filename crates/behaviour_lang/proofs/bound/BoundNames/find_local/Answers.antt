use Rattle.std.proofs.Common.{sym, ◌∙◌}
use Rattle.behaviour_lang.specs.Bound.{local_names}
use Rattle.behaviour_lang.proofs.HeldLaws.{bound-past}
use Rattle.behaviour_lang.proofs.bound.BoundNames.find_local.Goals as goal

pub returns : goal.returns
returns c = let names = c.args.self.now in c.find.ensures ∙ sym (bound-past c.args.name.now 0 names.refs names.flags (local_names names.locals))
