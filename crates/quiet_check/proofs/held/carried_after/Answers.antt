use Rattle.std.proofs.Common.{◌+◌, ◌∙◌, ap, reverse, sym, take}
use Rattle.history_model.specs.Held.{carried}
use Rattle.history_model.specs.Messages.{mail}
use Rattle.quiet_check.proofs.MailFacts.{carried_more}
use Rattle.quiet_check.proofs.held.carried_after.Goals as goal

pub returns-clause-value : goal.returns-clause-value
returns-clause-value c =
    let a = c.args in
    let p = reverse a.earlier.now in
    let message = c.admitted_message-message.result in
    ap (λ n. n + c.references_brought.result) c.requires.before
    ∙ ap (λ n. carried a.target (take a.limit (mail a.owner p)) + n) c.references_brought.ensures
    ∙ sym (carried_more a.owner a.target a.limit a.event.now p message c.admitted_message-message.ensures)
