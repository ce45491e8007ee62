use Rattle.mail_laws.proofs.WaitingLemmas.{mail-taken}
use Rattle.mail_laws.proofs.the_first_message_is_taken.Goals as goal

pub returns : goal.returns
returns c = λ cl p a old new takes legal. mail-taken p a old new takes
