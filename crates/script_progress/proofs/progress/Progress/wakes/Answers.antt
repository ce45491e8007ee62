use Rattle.script_progress.proofs.Steps.{progress-wakes}
use Rattle.script_progress.proofs.progress.Progress.wakes.Goals as goal

pub returns-clause-stands : goal.returns-clause-stands
returns-clause-stands c = λ s h stands. progress-wakes s h c.args.actor c.args.self.now _ stands c.use_wake.ensures
