use Rattle.std.proofs.Common.{◌≡◌, ◌*◌, ◌≤◌, sum_by}
use Rattle.crgc_ids.specs.Nodes.{nodes_below}
use Rattle.traffic.specs.Loads.{live_in}
use Rattle.traffic.proofs.loads.NodeLoads.total.Given as goal

abbrev pub invariant-loop-node : goal.invariant-loop-node
invariant-loop-node l = record {
  sum : l.total ≡ sum_by (λ n. live_in l.self n) (nodes_below l.node);
  fits : l.total ≤ l.node * 4294967295;
}
