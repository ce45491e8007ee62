use Rattle.std.proofs.Common.{length, ap}
use Rattle.history_model.specs.Ledgers.{entries_ledger}
use Rattle.history_model.proofs.TellsBulletins.{ledger-rising_names}
use Rattle.delta_graph.proofs.FitLemmas.{entries-stand}
use Rattle.delta_graph.proofs.laws.entries_name_whom_their_facts_name.Goals as goal

pub returns : goal.returns
returns c = λ entries facts each tells. ap length (ledger-rising_names facts (entries_ledger entries) (entries-stand entries each) tells)
