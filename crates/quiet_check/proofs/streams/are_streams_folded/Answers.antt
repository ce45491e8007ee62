use Rattle.std.proofs.Common.{arith, reverse}
use Rattle.std.proofs.lemmas.Grind.{common_steps}
use Rattle.quiet_check.specs.Plain.{is_folded}
use Rattle.quiet_check.proofs.Steps.{below_one_more}
use Rattle.quiet_check.proofs.streams.are_streams_folded.Goals as goal

pub loop-origin-preserved : goal.loop-origin-preserved
loop-origin-preserved c =
    let more = below_one_more (is_folded c.args.to (reverse c.args.events.now)) c.loop-origin.origin in
    grind (arith, common_steps)
