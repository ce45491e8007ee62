use Rattle.std.proofs.Common.{rules}
use Rattle.mailboxes.specs.Mail.{IsMailboxChange, mail_of, room_of}
use Rattle.mailboxes.proofs.MailLemmas.{mailbox_closed}
use Rattle.mailboxes.proofs.mailboxes.Mailboxes.close_if_over.Goals as goal

pub returns-then-is_over : goal.returns-then-is_over
returns-then-is_over c =
    let old = c.self.inside.queues.entries in
    let mail = c.is_over.ensures.mail c.if-is_over.true in
    let room = c.is_over.ensures.room c.if-is_over.true in
    let closed : IsMailboxChange c.args.self.now c.remove.new.self.entries c.args.actor (mail_of c.args.self.now c.args.actor) (room_of c.args.self.now c.args.actor) =
    rw (← c.self.view_is) (mailbox_closed old c.remove.new.self.entries c.args.actor (rw c.self.view_is mail) (rw c.self.view_is room) c.remove.ensures.updates.0) in
    search (rules, closed)
