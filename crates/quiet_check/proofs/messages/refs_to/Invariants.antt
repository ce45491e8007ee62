use Rattle.std.proofs.Common.{◌≡◌, ◌≤◌, take}
use Rattle.history_model.specs.Cluster.{same_actor}
use Rattle.history_model.specs.Tally.{tally}
use Rattle.quiet_check.proofs.messages.refs_to.Given as goal

abbrev pub invariant-loop-target : goal.invariant-loop-target
invariant-loop-target l = record {
  value : l.count ≡ tally (same_actor l.actor) (take l.target-index l.refs);
  bound : l.count ≤ l.target-index;
}
