use Rattle.run_model.proofs.ReadScripts.{read-in_ranges}
use Rattle.run_model.proofs.SeedsLegal.{beginning-legal}
use Rattle.run_model.proofs.run_laws.the_beginning_is_legal.Goals as goal

pub returns-clause-read : goal.returns-clause-read
returns-clause-read c = λ bytes s stands. read-in_ranges stands.0 s stands.2

pub returns-clause-legal : goal.returns-clause-legal
returns-clause-legal c = beginning-legal
