use Rattle.run_model.proofs.SeedsLegal.{beginning-legal}
use Rattle.run_model.proofs.Scheduled.{follows-legal, unfinished-legal}
use Rattle.run_model.proofs.run_laws.runs_are_legal.Goals as goal

pub returns-clause-unfinished : goal.returns-clause-unfinished
returns-clause-unfinished c = λ s h fits. unfinished-legal s h (beginning-legal s fits)

pub returns-clause-follows : goal.returns-clause-follows
returns-clause-follows c = λ s h fits. follows-legal s h (beginning-legal s fits)
