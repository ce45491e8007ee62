use Rattle.script_actors.proofs.TurnSteps.{step-due}
use Rattle.script_actors.proofs.laws.steps_are_due.Goals as goal

pub returns : goal.returns
returns c = λ s a h step old new good before made. step-due s a h old new good before step made
