use Rattle.std.proofs.Common.{arith}
use Rattle.std.proofs.lemmas.Grind.{common_steps}
use Rattle.history_model.specs.Cluster.{same_actor}
use Rattle.quiet_check.proofs.MailFacts.{tally_more}
use Rattle.quiet_check.proofs.messages.refs_to.Goals as goal

pub loop-target-preserved : goal.loop-target-preserved
loop-target-preserved c =
    let more = tally_more (same_actor c.args.actor) c.args.refs.now c.loop-target.target-index c.target-item.result c.loop-target-test.true c.target-item.is in
    grind (arith, common_steps)
