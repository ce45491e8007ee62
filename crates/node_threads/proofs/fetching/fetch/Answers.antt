use Rattle.node_threads.proofs.HandLemmas.{can-fold, can-hand, fetched}
use Rattle.node_threads.proofs.fetching.fetch.Goals as goal

pub ask-requires-clause-may : goal.ask-requires-clause-may
ask-requires-clause-may g c = (let can = c.requires.may in can.may)

pub ask-requires-clause-fits : goal.ask-requires-clause-fits
ask-requires-clause-fits g c =
    can-hand c.args.lock.now c.args.pass.now c.args.collector.now c.requires.may c.node-node.result c.args.origin c.wants-number.result c.node-node.ensures c.wants-number.ensures

pub fold-requires-clause-can : goal.fold-requires-clause-can
fold-requires-clause-can g c =
    can-fold c.args.lock.now c.args.pass.now c.args.collector.now c.requires.may c.node-node.result c.args.origin c.wants-number.result c.node-node.ensures c.wants-number.ensures
    c.ask.new.pass c.in-Ok.reply c.in-Ok.ensures.asked c.in-Ok.ensures.ok c.requires.origin

pub returns-in-Ok-fold-clause-next : goal.returns-in-Ok-fold-clause-next
returns-in-Ok-fold-clause-next g c =
    fetched c.args.lock.now c.args.pass.now c.args.collector.now c.requires.may c.node-node.result c.args.origin c.wants-number.result c.node-node.ensures c.wants-number.ensures
    c.ask.new.pass c.in-Ok.reply c.in-Ok.ensures.asked c.in-Ok.ensures.ok c.in-Ok-fold.more c.fold.new.collector c.in-Ok-fold.ensures
