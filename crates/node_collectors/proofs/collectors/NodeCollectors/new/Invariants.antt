use Rattle.std.proofs.Common.{◌≡◌, ℕ, Some, length, slice_get}
use Rattle.collector.specs.Collected.{Collected, IsNew}
use Rattle.node_collectors.proofs.collectors.NodeCollectors.new.Given as goal

abbrev pub invariant-loop-number : goal.invariant-loop-number
invariant-loop-number l = record {
  many : length l.rows.items ≡ l.number;
  new : (m : ℕ) (c : Collected) → slice_get l.rows.items m ≡ Some c → IsNew m l.nodes c;
}
