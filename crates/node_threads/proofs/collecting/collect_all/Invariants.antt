use Rattle.std.proofs.Common.{◌≡◌}
use Rattle.cluster_calls.specs.Calling.{IsSame}
use Rattle.node_threads.specs.Collecting.{AreSwept}
use Rattle.node_threads.specs.Fetching.{CanCollect}
use Rattle.node_threads.specs.Questions.{IsOver}
use Rattle.node_threads.proofs.collecting.collect_all.Given as goal

abbrev pub invariant-loop : goal.invariant-loop
invariant-loop g l = record {
  same : IsSame l.initial.pass l.pass;
  can : CanCollect l.lock l.pass l.collector;
  node : l.collector.node ≡ l.initial.collector.node;
  over : IsOver l.initial.pass.number l.over l.pass.own;
  swept : AreSwept l.initial.collector.node l.initial.pass.own l.pass.own;
}
