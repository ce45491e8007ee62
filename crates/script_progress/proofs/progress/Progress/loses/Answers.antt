use Rattle.std.proofs.Common.{subst, sym}
use Rattle.script_progress.specs.Standing.{IsProgressAt}
use Rattle.script_progress.proofs.Steps.{progress-loses}
use Rattle.script_progress.proofs.progress.Progress.loses.Goals as goal

pub returns-clause-stands : goal.returns-clause-stands
returns-clause-stands c = λ s h stands.
    progress-loses s h c.args.from c.args.at c.args.number _ c.use_loss.new.self (subst (IsProgressAt s h) (sym c.self.view_is) stands) c.use_loss.ensures
