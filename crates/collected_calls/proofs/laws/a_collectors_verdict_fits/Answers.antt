use Rattle.collected_calls.proofs.Fitting.{own-verdict, verdict-node}
use Rattle.collected_calls.proofs.laws.a_collectors_verdict_fits.Goals as goal

pub returns-clause-node : goal.returns-clause-node
returns-clause-node c = verdict-node

pub returns-clause-own : goal.returns-clause-own
returns-clause-own c = own-verdict
