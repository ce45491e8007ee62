use Rattle.std.proofs.Common.{◌≡◌, ℕ, [], get_or, length}
use Rattle.script_actors.proofs.actors.ScriptActors.without_actors.Given as goal

abbrev pub invariant-loop : goal.invariant-loop
invariant-loop l = record {
  many : length l.rows.items ≡ l.counter;
  empty : (n : ℕ) → get_or l.rows.items n [] ≡ [];
}
