use Rattle.std.proofs.Common.{arith, reverse}
use Rattle.std.proofs.lemmas.Grind.{common_steps}
use Rattle.history_model.specs.Folds.{was_handed}
use Rattle.quiet_check.proofs.Steps.{below_one_more}
use Rattle.quiet_check.proofs.streams.was_all_handed.Goals as goal

pub loop-number-preserved : goal.loop-number-preserved
loop-number-preserved c =
    let more = below_one_more (λ k. was_handed c.args.to c.args.origin k (reverse c.args.events.now)) c.loop-number.number in
    grind (arith, common_steps)
