use Rattle.history_model.proofs.LiveCounts.{busy_count-none, live_at-none, live_count-none}
use Rattle.history_model.proofs.live_laws.what_is_live_is_counted.Goals as goal

pub returns-clause-messages : goal.returns-clause-messages
returns-clause-messages c = live_count-none

pub returns-clause-node : goal.returns-clause-node
returns-clause-node c = λ cl h n legal. live_at-none cl h legal n

pub returns-clause-busy : goal.returns-clause-busy
returns-clause-busy c = busy_count-none
