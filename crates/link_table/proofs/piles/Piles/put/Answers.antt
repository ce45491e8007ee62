use Rattle.std.proofs.Common.{◌≡◌, None, Some, ap, sym, ◌∙◌, arith}
use Rattle.std.proofs.lemmas.Bool.{both_ways}
use Rattle.std.specs.Result.{is_err}
use Rattle.crgc_ids.proofs.SuccessLaws.{at_success}
use Rattle.link_table.specs.Piled.{ChangesPile, pile_at, weight}
use Rattle.link_table.proofs.PiledLemmas.{pile_put}
use Rattle.link_table.proofs.piles.Piles.put.Goals as goal

-- the number has no pile before
none : (c : goal.After-self-1) → pile_at c.self.inside.piles.entries c.args.number ≡ None
none c = rw c.self.view_is c.requires.none

-- the map has the new number, for the insertion did not fail
put : (c : goal.After-self-1) → ChangesPile c.self.inside.piles.entries c.insert.new.self.entries c.args.number (Some (record { copies = 1; message = Some c.args.message }))
put c =
    let no_err = sym c.is_err.ensures.value ∙ c.if-is_err.false in
    let updates = at_success _ c.insert.result (λ e failed. both_ways (is_err c.insert.result) no_err (ap is_err failed)) c.insert.ensures.updates in
    let entries = at_success _ c.insert.result (λ e failed. both_ways (is_err c.insert.result) no_err (ap is_err failed)) c.insert.ensures.entries in
    pile_put c.self.inside.piles.entries c.insert.new.self.entries c.args.number (record { copies = 1; message = Some c.args.message }) c.insert.ensures.was_ordered (none c) entries updates.1 updates.2

pub invariant_of-self-2 : goal.invariant_of-self-2
invariant_of-self-2 c =
    let before : weight (pile_at c.self.inside.piles.entries c.args.number) ≡ 0 = ap weight (none c) in
    omega (arith, (put c).count)

pub returns-clause-ok : goal.returns-clause-ok
returns-clause-ok c = rw (← c.self.view_is) (put c)
