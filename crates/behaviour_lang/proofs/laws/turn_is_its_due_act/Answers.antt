use Rattle.behaviour_lang.proofs.ActLaws.{turn_is_its_due_act}
use Rattle.behaviour_lang.proofs.laws.turn_is_its_due_act.Goals as goal

pub returns : goal.returns
returns c = turn_is_its_due_act
