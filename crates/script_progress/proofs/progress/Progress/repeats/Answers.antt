use Rattle.std.proofs.Common.{subst, sym}
use Rattle.script_progress.specs.Standing.{IsProgressAt}
use Rattle.script_progress.proofs.Steps.{progress-repeats}
use Rattle.script_progress.proofs.progress.Progress.repeats.Goals as goal

pub returns-clause-stands : goal.returns-clause-stands
returns-clause-stands c = λ s h stands.
    progress-repeats s h c.args.from c.args.at c.args.number _ c.use_repeat.new.self (subst (IsProgressAt s h) (sym c.self.view_is) stands) c.use_repeat.ensures
