use Rattle.std.proofs.Common.{◌∙◌, ap, map, reverse, sym}
use Rattle.quiet_check.specs.Plain.{carrying}
use Rattle.quiet_check.proofs.MailFacts.{message_here, message_there}
use Rattle.quiet_check.proofs.messages.message_after.Goals as goal

pub returns-then-is_send_of : goal.returns-then-is_send_of
returns-then-is_send_of c =
    let a = c.args in
    let here = message_here a.from a.at a.number a.event.now (reverse a.earlier.now) (sym c.if-is_send_of.ensures) in
    ap (map (carrying a.actor)) here ∙ c.sent_message.ensures

pub returns-else-is_send_of : goal.returns-else-is_send_of
returns-else-is_send_of c =
    let a = c.args in
    let there = message_there a.from a.at a.number a.event.now (reverse a.earlier.now) (sym c.if-is_send_of.ensures) in
    ap (map (carrying a.actor)) there ∙ c.requires
