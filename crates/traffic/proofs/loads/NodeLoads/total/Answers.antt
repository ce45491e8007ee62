use Rattle.std.proofs.Common.{arith}
use Rattle.traffic.specs.Loads.{live_in}
use Rattle.traffic.proofs.SumLemmas.{sum-next}
use Rattle.traffic.proofs.loads.NodeLoads.total.Goals as goal

pub loop-node-preserved : goal.loop-node-preserved
loop-node-preserved c =
    let next = sum-next (λ n. live_in c.args.self.now n) c.loop-node.node in
    let here = c.live.ensures in
    let same = c.from-total.ensures in
    let before = c.loop-node.invariant.sum in
    let most = c.loop-node.invariant.fits in
    let fits = c.live.type_inv in
    record { sum = omega arith; fits = omega arith }
