use Rattle.behaviour_lang.proofs.MadeLaws.{steps_are_the_turn, ended_turn}
use Rattle.behaviour_lang.proofs.laws.steps_are_the_turn.Goals as goal

pub returns-clause-made : goal.returns-clause-made
returns-clause-made c = λ l now done born made more. steps_are_the_turn l done born now more made

pub returns-clause-ended : goal.returns-clause-ended
returns-clause-ended c = ended_turn
