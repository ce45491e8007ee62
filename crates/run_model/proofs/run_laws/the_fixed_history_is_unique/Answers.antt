use Rattle.run_model.proofs.Scheduled.{fixed-unique}
use Rattle.run_model.proofs.run_laws.the_fixed_history_is_unique.Goals as goal

pub returns : goal.returns
returns c = fixed-unique
