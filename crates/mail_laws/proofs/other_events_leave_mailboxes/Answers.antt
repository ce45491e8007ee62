use Rattle.mail_laws.proofs.WaitingLemmas.{mail-left}
use Rattle.mail_laws.proofs.other_events_leave_mailboxes.Goals as goal

pub returns : goal.returns
returns c = λ cl e p boxes admits legal. mail-left cl e p boxes legal admits.0 admits.1
