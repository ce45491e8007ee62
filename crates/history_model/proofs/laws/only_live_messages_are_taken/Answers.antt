use Rattle.history_model.proofs.Uses.{moved-since}
use Rattle.history_model.proofs.laws.only_live_messages_are_taken.Goals as goal

pub returns : goal.returns
returns c = moved-since
