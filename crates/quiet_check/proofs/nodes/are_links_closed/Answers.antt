use Rattle.std.proofs.Common.{arith, reverse}
use Rattle.std.proofs.lemmas.Grind.{common_steps}
use Rattle.quiet_check.specs.Plain.{closes_all}
use Rattle.quiet_check.proofs.Steps.{below_one_more}
use Rattle.quiet_check.proofs.nodes.are_links_closed.Goals as goal

pub loop-from-preserved : goal.loop-from-preserved
loop-from-preserved c =
    let more = below_one_more (closes_all c.args.nodes (reverse c.args.events.now)) c.loop-from.from in
    grind (arith, common_steps)
