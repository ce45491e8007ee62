use Rattle.std.proofs.Common.{rules}
use Rattle.mailboxes.proofs.MailLemmas.{mailbox_change, mailbox_of-found}
use Rattle.mailboxes.proofs.mailboxes.Mailboxes.pop_from.Goals as goal

pub returns-clause-rest : goal.returns-clause-rest
returns-clause-rest c =
    let old = c.self.inside.queues.entries in
    let found = mailbox_of-found old c.args.actor c.in_ok-get_mut.field-0.now c.in_ok-get_mut.ensures.value in
    let updates = (c.get_mut.follows.holds c.pop.new.self).3 (search rules) in
    rw (← c.self.view_is, found) (mailbox_change old _ c.args.actor c.pop.new.self _ updates.1 updates.2 c.pop.ensures.rest)
