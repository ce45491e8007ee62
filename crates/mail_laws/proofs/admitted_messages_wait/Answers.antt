use Rattle.mail_laws.proofs.WaitingLemmas.{mail-admitted}
use Rattle.mail_laws.proofs.admitted_messages_wait.Goals as goal

pub returns : goal.returns
returns c = λ cl e p old new puts legal. mail-admitted cl e p puts.0 old new legal puts.1.0 puts.1.1 puts.2
