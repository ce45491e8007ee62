use Rattle.std.proofs.Common.{◌≡◌, ◌<◌, take}
use Rattle.std.specs.List.{AllByRecursion}
use Rattle.history_model.specs.Ledgers.{entries_ledger}
use Rattle.delta_graph.proofs.gathered.sent_of.Given as goal

abbrev pub invariant-loop-entry : goal.invariant-loop-entry
invariant-loop-entry l = record {
  rows : l.rows.items ≡ (entries_ledger (take l.entry-index l.entries)).sent;
  stand : AllByRecursion (λ r. 0 < r.count) l.rows.items;
}
