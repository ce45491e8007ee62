use Rattle.std.proofs.Common.{◌≡◌, ◌≤◌, ◌*◌, sum_by, take}
use Rattle.node_actors.specs.Node.{busy_in}
use Rattle.roster.proofs.table.Roster.busy_count.Given as goal

abbrev pub invariant-loop-row : goal.invariant-loop-row
invariant-loop-row l = record {
  counted : l.total ≡ sum_by busy_in (take l.row-index l.self.nodes);
  fits : l.total ≤ 262144 * l.row-index;
}
