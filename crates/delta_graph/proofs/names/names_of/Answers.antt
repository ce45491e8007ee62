use Rattle.std.proofs.Common.{arith}
use Rattle.history_model.specs.Ledgers.{delta_ledger}
use Rattle.delta_graph.proofs.NameLemmas.{names-length}
use Rattle.delta_graph.proofs.names.names_of.Goals as goal

pub returns : goal.returns
returns c =
    let names = names-length (delta_ledger c.args.delta.now) in
    omega arith
