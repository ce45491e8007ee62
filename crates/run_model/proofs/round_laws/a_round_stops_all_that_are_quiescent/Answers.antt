use Rattle.history_model.proofs.LiveCounts.{none_lost-delivered}
use Rattle.run_model.proofs.RoundQuiet.{round-stopped}
use Rattle.run_model.proofs.round_laws.a_round_stops_all_that_are_quiescent.Goals as goal

pub returns-clause-delivered : goal.returns-clause-delivered
returns-clause-delivered c = round-stopped

pub returns-clause-not_lost : goal.returns-clause-not_lost
returns-clause-not_lost c = λ cl h a legal none. round-stopped cl h a legal (none_lost-delivered h none)
