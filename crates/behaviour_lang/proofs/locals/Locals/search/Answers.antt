use Rattle.std.proofs.Common.{rules}
use Rattle.std.proofs.lemmas.Fn.{always_returns_same}
use Rattle.behaviour_lang.specs.Rows.{row_cmp}
use Rattle.behaviour_lang.proofs.RowLaws.{searched}
use Rattle.behaviour_lang.proofs.locals.Locals.search.Goals as goal

-- the closure compares a row's name
pub returns-clause-found : goal.returns-clause-found
returns-clause-found c =
    let facts = c.binary_search_by.ensures in
    let by_name = facts.position (λ row. row_cmp row c.args.name.now) (always_returns_same _ _ _ (λ a r g called. search rules)) in
    rw (← c.self.view_is, ← c.deref.ensures.value) (searched c.args.name.now _ (rw c.deref.ensures.value c.self.invariant) _ facts.bound by_name).0

pub returns-clause-absent : goal.returns-clause-absent
returns-clause-absent c =
    let facts = c.binary_search_by.ensures in
    let by_name = facts.position (λ row. row_cmp row c.args.name.now) (always_returns_same _ _ _ (λ a r g called. search rules)) in
    rw (← c.self.view_is, ← c.deref.ensures.value) (searched c.args.name.now _ (rw c.deref.ensures.value c.self.invariant) _ facts.bound by_name).1
