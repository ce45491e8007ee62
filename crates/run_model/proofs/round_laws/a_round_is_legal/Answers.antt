use Rattle.run_model.proofs.RoundQuiet.{round-legal, round-more, round-up}
use Rattle.run_model.proofs.round_laws.a_round_is_legal.Goals as goal

pub returns-clause-legal : goal.returns-clause-legal
returns-clause-legal c = round-legal

pub returns-clause-adds : goal.returns-clause-adds
returns-clause-adds c = round-more

pub returns-clause-up : goal.returns-clause-up
returns-clause-up c = round-up
