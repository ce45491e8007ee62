use Rattle.std.proofs.Common.{◌≡◌, ℕ, get_or, length}
use Rattle.script_progress.specs.Used.{unused}
use Rattle.script_progress.proofs.begin.new_nodes.Given as goal

abbrev pub invariant-loop : goal.invariant-loop
invariant-loop l = record {
  many : length l.rows.items ≡ l.counter;
  fresh : (n : ℕ) → get_or l.rows.items n unused ≡ unused;
}
