use Rattle.std.proofs.Common.{sym}
use Rattle.behaviour_lang.specs.Rows.{IsGapFor}
use Rattle.behaviour_lang.proofs.RowLaws.{rising-insert, bind-insert}
use Rattle.behaviour_lang.proofs.locals.Locals.bind.Goals.{in-Ok, in-Err}
use Rattle.behaviour_lang.proofs.locals.Locals.bind.Goals as goal

-- the place, seen among the rows
gap_here : (c : goal.Joined-insert) → IsGapFor c.args.name c.self.inside.rows.items c.gap-at.result
gap_here c = rw c.self.view_is c.gap-at.ensures

pub invariant_of-self : goal.invariant_of-self
invariant_of-self c = elim c.match-insert.branch [
  | in-Ok w ↦ rw w.in-Ok.ensures.items (rising-insert c.args.name c.args.actor _ _ (gap_here c) c.self.invariant)
  | in-Err w ↦ rw w.in-Err.ensures.items c.self.invariant
]

pub returns-clause-ok : goal.returns-clause-ok
returns-clause-ok c = elim c.match-insert.branch [
  | in-Ok w ↦ rw (w.result-is, w.in-Ok.ensures.items, ← c.self.view_is) (sym (bind-insert c.args.name c.args.actor _ _ (gap_here c)))
  | in-Err w ↦ rw w.result-is tt
]
