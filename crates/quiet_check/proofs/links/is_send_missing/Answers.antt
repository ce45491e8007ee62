use Rattle.std.proofs.Common.{◌∙◌, reverse}
use Rattle.quiet_check.proofs.Counts.{same_undelivered}
use Rattle.quiet_check.proofs.links.is_send_missing.Goals as goal

pub returns : goal.returns
returns c =
    let a = c.args in
    let source = c.get-source.ensures.number ∙ c.node.ensures in
    let target = c.get-target.ensures.number ∙ c.node-2.ensures in
    c.is_number_missing.ensures
    ∙ same_undelivered (reverse a.events.now) (reverse a.earlier.now) c.get-source.result a.from.node c.get-target.result a.to.node c.sent_on.result source target c.sent_on.ensures.value
