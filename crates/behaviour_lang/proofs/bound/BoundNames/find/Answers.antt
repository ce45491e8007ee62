use Rattle.std.proofs.Common.{◌∙◌}
use Rattle.behaviour_lang.proofs.HeldLaws.{bound-own}
use Rattle.behaviour_lang.proofs.bound.BoundNames.find.Goals as goal

-- `self` is a local name
pub returns-in-Own : goal.returns-in-Own
returns-in-Own c =
    let names = c.args.self.now in
    rw c.in-Own.is (rw c.own.ensures at c.find_local.ensures ∙ bound-own 0 names.refs names.flags names.locals)
