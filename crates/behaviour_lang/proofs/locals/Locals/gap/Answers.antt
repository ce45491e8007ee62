use Rattle.std.proofs.Common.{sym, ◌∙◌}
use Rattle.std.proofs.lemmas.Option.{none-some}
use Rattle.behaviour_lang.proofs.RowLaws.{bound-row}
use Rattle.behaviour_lang.proofs.locals.Locals.gap.Goals as goal

-- a name that is there is bound
pub returns-in-Ok : goal.returns-in-Ok
returns-in-Ok c =
    let found = c.in-Ok.ensures.found in
    absurd (none-some _ (sym c.requires ∙ bound-row _ c.args.self.now c.in-Ok.at (c.args.name.now, record { node = 0; serial = 0 }) c.in-Ok.ensures.rising found))
