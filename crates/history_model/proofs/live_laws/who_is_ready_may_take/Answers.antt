use Rattle.history_model.proofs.LiveCounts.{ready-takes}
use Rattle.history_model.proofs.live_laws.who_is_ready_may_take.Goals as goal

pub returns : goal.returns
returns c = λ cl h a legal. ready-takes cl h legal a
