use Rattle.std.proofs.Common.{◌≡◌, reverse}
use Rattle.history_model.specs.Folds.{was_handed}
use Rattle.quiet_check.specs.Plain.{all_below}
use Rattle.quiet_check.proofs.streams.was_all_handed.Given as goal

abbrev pub invariant-loop-number : goal.invariant-loop-number
invariant-loop-number l = l.handed ≡ all_below (λ k. was_handed l.to l.origin k (reverse l.events)) l.number
