use Rattle.std.proofs.lemmas.Result.{IfOk-weaker}
use Rattle.std.proofs.Common.{arith, false}
use Rattle.node_threads.specs.Fetching.{AllAreFetched, AreFetchedIfNode, GoesOrEnds}
use Rattle.node_threads.proofs.PumpLemmas.{made-same}
use Rattle.node_threads.proofs.HandLemmas.{goes-none, goes_or-weaker}
use Rattle.node_threads.proofs.RoundLemmas.{if-node, skipped}
use Rattle.node_threads.proofs.fetching.fetch_from.Goals as goal

pub returns-then-number-nodes-clause-all : goal.returns-then-number-nodes-clause-all
returns-then-number-nodes-clause-all g c =
    let collector = c.args.collector.now in
    goes-none c.args.lock.now c.args.pass.now collector (AreFetchedIfNode c.args.number collector collector false) c.requires.may
    (skipped c.args.number collector (let beyond = c.if-number-nodes.true in let nodes = c.nodes.ensures in omega (arith, beyond, nodes)))

pub fetch_all-requires-clause-origin : goal.fetch_all-requires-clause-origin
fetch_all-requires-clause-origin g c =
    let same = made-same c.new.result c.unwrap-origin.result c.args.number c.unwrap-origin.ensures c.new.ensures.some in
    let below = c.if-number-nodes.false in
    let nodes = c.nodes.ensures in
    omega (arith, same, below, nodes)

pub returns-clause-all : goal.returns-clause-all
returns-clause-all g c =
    let lock = c.args.lock.now in
    let old = c.args.pass.now in
    let new = c.fetch_all.new.pass in
    let before = c.args.collector.now in
    let after = c.fetch_all.new.collector in
    let origin = c.unwrap-origin.result in
    let same = made-same c.new.result origin c.args.number c.unwrap-origin.ensures c.new.ensures.some in
    IfOk-weaker c.fetch_all.result (GoesOrEnds lock old new before after (AllAreFetched origin before after)) (GoesOrEnds lock old new before after (AreFetchedIfNode c.args.number before after))
    (goes_or-weaker lock old new before after (AllAreFetched origin before after) (AreFetchedIfNode c.args.number before after) (if-node origin c.args.number before after same)) c.fetch_all.ensures.all
