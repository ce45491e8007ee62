use Rattle.std.proofs.Common.{sym, ap, ◌∙◌}
use Rattle.behaviour_lang.specs.Bound.{local_names}
use Rattle.behaviour_lang.proofs.RowLaws.{rising-remove, remove-row, without-local_names, without-absent, absent_at_gap}
use Rattle.behaviour_lang.proofs.locals.Locals.unbind.Goals as goal

pub invariant_of-self : goal.invariant_of-self
invariant_of-self c = rw c.remove.ensures.items (rising-remove c.args.name.now _ c.in-Ok.at c.self.invariant (rw c.self.view_is c.in-Ok.ensures.found))

-- the row of the name is taken away
pub returns-in-Ok : goal.returns-in-Ok
returns-in-Ok c =
    rw (c.remove.ensures.items, ← c.self.view_is) (ap local_names (remove-row c.args.name.now _ c.in-Ok.at c.self.invariant (rw c.self.view_is c.in-Ok.ensures.found)) ∙ sym (without-local_names c.args.name.now _))

-- there was none
pub returns-in_default : goal.returns-in_default
returns-in_default c = sym (without-absent _ _ (absent_at_gap _ _ _ c.in_default.ensures.absent))
