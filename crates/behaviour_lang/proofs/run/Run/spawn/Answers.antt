use Rattle.std.proofs.Common.{◌≡◌, None, refl, sym, ◌∙◌}
use Rattle.behaviour_lang.specs.Bound.{bound}
use Rattle.behaviour_lang.specs.Held.{names_of}
use Rattle.behaviour_lang.specs.declared.instr.Name.TheVariants.{Local}
use Rattle.behaviour_lang.proofs.NameLaws.{without_unbound}
use Rattle.behaviour_lang.proofs.run.Run.spawn.Goals as goal

-- the name is not bound, and waits for the child
pub returns-in-None : goal.returns-in-None
returns-in-None c = λ instrs e.
    let names = names_of c.args.self.now.names in
    let unbound : bound (Local c.args.name.now) names ≡ None = sym c.find_local.ensures ∙ c.in-None.is in
    rw (e, unbound, without_unbound _ names unbound) refl
