use Rattle.std.proofs.Common.{◌≡◌, ◌≤◌, length, take}
use Rattle.std.specs.Prelude.{vec_capacity, vec_len}
use Rattle.history_model.specs.Ledgers.{entries_ledger}
use Rattle.delta_graph.proofs.gathered.states_of.Given as goal

abbrev pub invariant-loop-entry : goal.invariant-loop-entry
invariant-loop-entry l = record {
  rows : l.rows.items ≡ (entries_ledger (take l.entry-index l.entries)).states;
  len : vec_len l.rows ≡ l.entry-index;
  room : length l.entries ≤ vec_capacity l.rows;
}
