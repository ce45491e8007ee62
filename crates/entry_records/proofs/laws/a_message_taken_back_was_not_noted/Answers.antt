use Rattle.std.proofs.Common.{ap}
use Rattle.entry_records.proofs.LogLemmas.{message-taken_back}
use Rattle.entry_records.proofs.laws.a_message_taken_back_was_not_noted.Goals as goal

pub returns : goal.returns
returns c = λ l m. ap (λ n. record l { noted = n }) (message-taken_back m l.noted)
