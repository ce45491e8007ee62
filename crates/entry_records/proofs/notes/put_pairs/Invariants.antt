use Rattle.std.proofs.Common.{◌≡◌, ◌+◌, ◌≤◌, ◌++◌, length, map, take, vec_capacity, vec_len}
use Rattle.entry_records.proofs.notes.put_pairs.Given as goal

abbrev pub invariant-loop-target : goal.invariant-loop-target
invariant-loop-target l = record {
  items : l.rows.items ≡ l.fn.rows.items ++ map (λ a. record { owner = l.owner; target = a; count = 1 }) (take l.target-index l.targets);
  room : vec_len l.rows + length l.targets ≤ vec_capacity l.rows + l.target-index;
}
