use Rattle.run_model.proofs.SeedsLegal.{beginning-legal}
use Rattle.run_model.proofs.Runs.{due-allowed, run-sound, sound-due}
use Rattle.run_model.proofs.run_laws.acts_of_turns_are_legal.Goals as goal

pub returns-clause-legal : goal.returns-clause-legal
returns-clause-legal c = λ s a h fits run busy up. sound-due s a h (run-sound s h (beginning-legal s fits) run) busy up

pub returns-clause-allowed : goal.returns-clause-allowed
returns-clause-allowed c = λ s a h fits run busy up none. due-allowed s a h (run-sound s h (beginning-legal s fits) run) busy up none
