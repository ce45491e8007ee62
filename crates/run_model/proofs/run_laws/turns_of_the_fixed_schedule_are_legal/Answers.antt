use Rattle.run_model.proofs.SeedsLegal.{beginning-legal}
use Rattle.run_model.proofs.PartTurns.{part-under_way}
use Rattle.run_model.proofs.run_laws.turns_of_the_fixed_schedule_are_legal.Goals as goal

pub returns : goal.returns
returns c = λ s a k e q fits begins none all. part-under_way s a (beginning-legal s fits) k e q begins none all
