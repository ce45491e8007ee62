use Rattle.std.proofs.Common.{◌<◌, arith, rules}
use Rattle.node_collectors.proofs.StandLemmas.{row-at}
use Rattle.node_collectors.proofs.WantedLemmas.{first-unhanded}
use Rattle.node_collectors.proofs.collectors.NodeCollectors.wants.Goals as goal

pub returns : goal.returns
returns c = λ cl h stand inside up.
    let count = stand.count in
    let node : c.args.to < cl.nodes = omega (arith, count, c.requires) in
    let at = row-at cl h c.args.self.now c.self.inside.rows.items c.get.result c.args.to (search rules) c.get.ensures.number stand c.index.result.now node up c.index.ensures in
    first-unhanded cl h c.args.to c.args.origin c.wants.result c.index.result.now at inside c.wants.ensures
