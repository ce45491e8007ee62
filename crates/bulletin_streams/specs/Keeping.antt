-- What the types of the records keep, gathered for a whole queue and a whole stream.
use Rattle.std.specs.Prelude.{List}
use Rattle.std.specs.List.{AllByRecursion}
use Rattle.history_model.specs.declared.records.Bulletin.{Bulletin}
use Rattle.history_model.specs.declared.records.Entry.{Entry}
use Rattle.history_model.specs.Ledgers.{CountFromOne, entry_ledger}
use Rattle.history_model.specs.Tells.{IsOrdered}

-- no row of an entry counts 0; the rows of a bulletin rise, and none counts 0
pub record AreInOrder (queued : List Entry) (told : List Bulletin) : Type 0 where
  pub entries : AllByRecursion (λ e. CountFromOne (entry_ledger e)) queued
  pub bulletins : AllByRecursion IsOrdered told
