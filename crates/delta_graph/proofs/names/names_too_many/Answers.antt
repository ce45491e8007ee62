use Rattle.std.proofs.Common.{◌≤◌, length, arith}
use Rattle.std.proofs.lemmas.Bool.Decides.{nat_tests}
use Rattle.history_model.specs.Graph.{rising_actors}
use Rattle.history_model.specs.Ledgers.{delta_ledger, ledger_names}
use Rattle.delta_graph.proofs.NameLemmas.{different-bound}
use Rattle.delta_graph.proofs.names.names_too_many.Goals as goal

pub returns-then-names_of-le-MOST_NAMED : goal.returns-then-names_of-le-MOST_NAMED
returns-then-names_of-le-MOST_NAMED c =
    let names = ledger_names (delta_ledger c.args.delta.now) in
    let different = different-bound names in
    let few : length (rising_actors names) ≤ 200000 = omega arith in
    grind (arith, nat_tests)
