use Rattle.std.proofs.Common.{◌≡◌, get_or, sym, ap, ◌∙◌, Some}
use Rattle.behaviour_lang.specs.Rows.{Row}
use Rattle.behaviour_lang.proofs.RowLaws.{bound-row, bound-absent, absent_at_gap}
use Rattle.behaviour_lang.proofs.locals.Locals.find.Goals as goal

-- the row that was found
pub returns-in-Ok : goal.returns-in-Ok
returns-in-Ok c =
    let row = c.index.result.now in
    let there = bound-row c.args.name.now c.args.self.now c.in-Ok.at row c.in-Ok.ensures.rising c.in-Ok.ensures.found in
    let read : row ≡ get_or c.args.self.now c.in-Ok.at row = rw (← c.self.view_is) c.index.ensures in
    ap (λ (r : Row). Some r.1) read ∙ sym there

-- no row has the name
pub returns-in-Err : goal.returns-in-Err
returns-in-Err c = sym (bound-absent c.args.name.now c.args.self.now (absent_at_gap _ _ _ c.in-Err.ensures.absent))
