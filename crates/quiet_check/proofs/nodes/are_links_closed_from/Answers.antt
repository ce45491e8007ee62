use Rattle.std.proofs.Common.{arith, reverse}
use Rattle.std.proofs.lemmas.Grind.{common_steps}
use Rattle.quiet_check.specs.Plain.{closes}
use Rattle.quiet_check.proofs.Steps.{below_one_more}
use Rattle.quiet_check.proofs.nodes.are_links_closed_from.Goals as goal

pub loop-at-preserved : goal.loop-at-preserved
loop-at-preserved c =
    let more = below_one_more (closes (reverse c.args.events.now) c.args.from) c.loop-at.at in
    grind (arith, common_steps)
