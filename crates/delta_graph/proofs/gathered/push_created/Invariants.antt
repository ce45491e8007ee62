use Rattle.std.proofs.Common.{◌≡◌, ◌<◌, ◌++◌, take}
use Rattle.std.specs.List.{AllByRecursion, filter}
use Rattle.history_model.specs.Ledgers.{entries_ledger}
use Rattle.delta_graph.specs.Sums.{is_of_part}
use Rattle.delta_graph.proofs.gathered.push_created.Given as goal

abbrev pub invariant-loop-entry : goal.invariant-loop-entry
invariant-loop-entry l = record {
  rows : l.rows.items ≡ l.fn.rows.items ++ filter (is_of_part l.to_itself) (entries_ledger (take l.entry-index l.entries)).created;
  stand : AllByRecursion (λ r. 0 < r.count) (entries_ledger (take l.entry-index l.entries)).created;
}
