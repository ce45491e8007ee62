use Rattle.std.proofs.Common.{◌∙◌}
use Rattle.behaviour_lang.proofs.HeldLaws.{without-own}
use Rattle.behaviour_lang.proofs.bound.BoundNames.unbind.Goals as goal

-- `self` is a local name
pub returns-in-Own : goal.returns-in-Own
returns-in-Own c =
    let names = c.args.self.now in
    rw c.in-Own.is (rw c.own.ensures at c.unbind_local.ensures ∙ without-own 0 names.refs names.flags names.locals)
