use Rattle.std.proofs.Common.{◌≡◌, ◌<◌, ℕ, get_or, length}
use Rattle.node_actors.specs.Node.{blank_node}
use Rattle.roster.proofs.table.Roster.new.Given as goal

abbrev pub invariant-loop-number : goal.invariant-loop-number
invariant-loop-number l = record {
  many : length l.rows.items ≡ l.number;
  fresh : (n : ℕ) → n < l.number → get_or l.rows.items n (blank_node n) ≡ blank_node n;
}
