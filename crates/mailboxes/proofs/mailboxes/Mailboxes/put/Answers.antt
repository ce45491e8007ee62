use Rattle.std.proofs.Common.{rules}
use Rattle.std.proofs.lemmas.Result.{on_err_weaker, on_ok_weaker}
use Rattle.mailboxes.proofs.MailLemmas.{mailbox_change, mailbox_of-found, written_back}
use Rattle.mailboxes.proofs.mailboxes.Mailboxes.put.Goals as goal

pub returns-in-Some-clause-ok : goal.returns-in-Some-clause-ok
returns-in-Some-clause-ok c =
    let old = c.self.inside.queues.entries in
    let found = mailbox_of-found old c.args.to c.in-Some.queue.now c.in-Some.ensures.value in
    let updates = (c.get_mut.follows.holds c.put.new.self).3 (search rules) in
    on_ok_weaker c.put.result
    (λ is. rw (← c.self.view_is, found) (mailbox_change old _ c.args.to c.put.new.self _ updates.1 updates.2 is))
    c.put.ensures.ok

pub returns-in-Some-clause-err : goal.returns-in-Some-clause-err
returns-in-Some-clause-err c =
    let written = (c.get_mut.follows.holds c.put.new.self).0 in
    on_err_weaker c.put.result
    (λ is. rw (← c.self.view_is) (written_back _ _ c.args.to c.in-Some.queue.now c.put.new.self c.in-Some.ensures.value written is))
    c.put.ensures.err
