use Rattle.std.proofs.Common.{◌++◌, sym, ap, ◌∙◌}
use Rattle.behaviour_lang.specs.Bound.{Names, local_names}
use Rattle.behaviour_lang.specs.Held.{flagged}
use Rattle.behaviour_lang.proofs.HeldLaws.{without-past}
use Rattle.behaviour_lang.proofs.bound.BoundNames.unbind_local.Goals as goal

pub returns : goal.returns
returns c =
    let names = c.args.self.now in
    ap (λ (rest : Names). flagged 0 names.refs names.flags ++ rest) c.unbind.ensures ∙ sym (without-past c.args.name.now 0 names.refs names.flags (local_names names.locals))
