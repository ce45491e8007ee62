use Rattle.run_model.proofs.PartTurns.{due-next}
use Rattle.run_model.proofs.run_laws.what_is_due_comes_next.Goals as goal

pub returns : goal.returns
returns c = due-next
