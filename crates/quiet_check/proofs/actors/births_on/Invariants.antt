use Rattle.std.proofs.Common.{◌≡◌, ◌≤◌, take, reverse}
use Rattle.history_model.specs.Cluster.{births}
use Rattle.quiet_check.proofs.actors.births_on.Given as goal

abbrev pub invariant-loop-event : goal.invariant-loop-event
invariant-loop-event l = record {
  value : l.born ≡ births l.node (reverse (take l.event-index l.events));
  bound : l.born ≤ l.event-index;
}
