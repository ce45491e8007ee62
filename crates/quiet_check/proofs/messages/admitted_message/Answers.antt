use Rattle.std.proofs.Common.{reverse}
use Rattle.quiet_check.proofs.MailFacts.{same_admission}
use Rattle.quiet_check.proofs.messages.admitted_message.Goals as goal

pub returns-in-Admit : goal.returns-in-Admit
returns-in-Admit c =
    let a = c.args in
    let m = c.in-Admit in
    same_admission a.actor a.event.now c.get.result m.from c.get-in-Admit.result m.at m.number (reverse a.earlier.now) c.first_admitted.result c.get.ensures.number c.get-in-Admit.ensures.number m.is c.first_admitted.ensures
