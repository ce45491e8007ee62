use Rattle.std.proofs.Common.{◌≡◌, Some, None, sym, ◌∙◌}
use Rattle.behaviour_lang.specs.Held.{first_flag}
use Rattle.behaviour_lang.proofs.HeldLaws.{first-none, first-some}
use Rattle.behaviour_lang.proofs.bound.BoundNames.take_message.Goals as goal

pub returns-in_err-k-clause-value : goal.returns-in_err-k-clause-value
returns-in_err-k-clause-value c =
    let names = c.args.self.now in
    let none : first_flag 0 names.refs names.flags ≡ None = sym (rw c.as_slice.ensures at c.first_flag.ensures) ∙ c.in_err-k.was in
    c.from_residual.ensures ∙ sym (first-none 0 names.refs names.flags names.locals none).0

pub returns-in_err-k-clause-rest : goal.returns-in_err-k-clause-rest
returns-in_err-k-clause-rest c =
    let names = c.args.self.now in
    let none : first_flag 0 names.refs names.flags ≡ None = sym (rw c.as_slice.ensures at c.first_flag.ensures) ∙ c.in_err-k.was in
    sym (first-none 0 names.refs names.flags names.locals none).1

pub returns-clause-value : goal.returns-clause-value
returns-clause-value c =
    let names = c.args.self.now in
    let some : first_flag 0 names.refs names.flags ≡ Some c.in_ok-k.k = sym (rw c.as_slice.ensures at c.first_flag.ensures) ∙ c.in_ok-k.was in
    c.find_message-actor.ensures ∙ sym (first-some 0 c.in_ok-k.k names.refs names.flags names.locals some).0

pub returns-clause-rest : goal.returns-clause-rest
returns-clause-rest c =
    let names = c.args.self.now in
    let some : first_flag 0 names.refs names.flags ≡ Some c.in_ok-k.k = sym (rw c.as_slice.ensures at c.first_flag.ensures) ∙ c.in_ok-k.was in
    c.unbind_message.ensures ∙ sym (first-some 0 c.in_ok-k.k names.refs names.flags names.locals some).1
