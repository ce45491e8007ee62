use Rattle.history_model.proofs.LiveCounts.{none_lost-delivered}
use Rattle.history_model.proofs.live_laws.what_is_not_lost_is_delivered.Goals as goal

pub returns : goal.returns
returns c = none_lost-delivered
