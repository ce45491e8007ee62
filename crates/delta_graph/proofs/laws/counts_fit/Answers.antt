use Rattle.history_model.specs.Ledgers.{entries_ledger}
use Rattle.delta_graph.proofs.FitLemmas.{fit-facts, fit-together}
use Rattle.delta_graph.proofs.laws.counts_fit.Goals as goal

pub returns-clause-together : goal.returns-clause-together
returns-clause-together c = fit-together

pub returns-clause-facts : goal.returns-clause-facts
returns-clause-facts c = λ entries. fit-facts (entries_ledger entries)
