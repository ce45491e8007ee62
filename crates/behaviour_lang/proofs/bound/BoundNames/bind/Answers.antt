use Rattle.std.proofs.Common.{◌++◌, sym, ap, ◌∙◌, ◌≡◌}
use Rattle.std.proofs.lemmas.Result.{on_ok_weaker}
use Rattle.behaviour_lang.specs.Bound.{Names, bind, local_names}
use Rattle.behaviour_lang.specs.Held.{flagged}
use Rattle.behaviour_lang.proofs.HeldLaws.{bound-past, bind-past}
use Rattle.behaviour_lang.proofs.bound.BoundNames.bind.Goals as goal

pub bind-requires : goal.bind-requires
bind-requires c = let names = c.args.self.now in sym (bound-past c.args.name 0 names.refs names.flags (local_names names.locals)) ∙ c.requires

-- the message names stay
pub returns-clause-ok : goal.returns-clause-ok
returns-clause-ok c =
    let names = c.args.self.now in
    on_ok_weaker c.bind.result (λ (bound_now : local_names c.bind.new.self ≡ bind c.args.name c.args.actor (local_names names.locals)). ap (λ (rest : Names). flagged 0 names.refs names.flags ++ rest) bound_now ∙ sym (bind-past c.args.name c.args.actor 0 names.refs names.flags (local_names names.locals))) c.bind.ensures.ok
