use Rattle.run_model.proofs.SeedsLegal.{beginning-legal}
use Rattle.run_model.proofs.Scheduled.{fixed-sound, schedule-sound}
use Rattle.run_model.proofs.run_laws.the_fixed_schedule_is_legal.Goals as goal

pub returns-clause-made : goal.returns-clause-made
returns-clause-made c = λ s k fits. (schedule-sound s (beginning-legal s fits) k).0

pub returns-clause-fixed : goal.returns-clause-fixed
returns-clause-fixed c = λ s h fits fixed. (fixed-sound s (beginning-legal s fits) h fixed).0
