use Rattle.collector.proofs.TakeLemmas.{new-is}
use Rattle.collector.proofs.collector.Collector.new.Goals as goal

pub returns : goal.returns
returns c =
    let is = new-is c.args.node c.args.nodes c.in_ok-order.order c.new-2.result.graph c.in_ok-order.ensures.nodes c.in_ok-order.ensures.cut c.in_ok-order.ensures.kept c.new-2.ensures.shadows c.new-2.ensures.stands in
    rw c.new-3.ensures.items is
