use Rattle.run_model.proofs.TurnsDue.{due-done}
use Rattle.run_model.proofs.run_laws.what_is_due_is_the_whole_turn.Goals as goal

pub returns : goal.returns
returns c = due-done
