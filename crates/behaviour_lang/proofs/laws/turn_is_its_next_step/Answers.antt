use Rattle.behaviour_lang.proofs.StepLaws.{turn_is_its_next_step}
use Rattle.behaviour_lang.proofs.laws.turn_is_its_next_step.Goals as goal

pub returns : goal.returns
returns c = λ l children. turn_is_its_next_step l.instrs l.names l.root children
