use Rattle.history_model.proofs.LiveCounts.{none_lost-delivered}
use Rattle.run_model.proofs.RoundQuiet.{round-quietly}
use Rattle.run_model.proofs.round_laws.each_sweep_of_a_round_is_at_a_quiet_point.Goals as goal

pub returns-clause-delivered : goal.returns-clause-delivered
returns-clause-delivered c = round-quietly

pub returns-clause-not_lost : goal.returns-clause-not_lost
returns-clause-not_lost c = λ cl q r h m legal none. round-quietly cl q r h m legal (none_lost-delivered h none)
