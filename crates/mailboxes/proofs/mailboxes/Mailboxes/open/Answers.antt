use Rattle.std.proofs.Common.{refl}
use Rattle.mailboxes.proofs.MailLemmas.{mailbox_change}
use Rattle.mailboxes.proofs.mailboxes.Mailboxes.open.Goals as goal

pub returns-in-Ok-clause-ok : goal.returns-in-Ok-clause-ok
returns-in-Ok-clause-ok c =
    rw (← c.self.view_is) (mailbox_change _ _ c.args.actor c.args.queue c.args.queue c.in-Ok.ensures.updates.1 c.in-Ok.ensures.updates.2 refl)
