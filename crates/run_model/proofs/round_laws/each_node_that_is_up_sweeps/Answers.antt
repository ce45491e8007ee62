use Rattle.run_model.proofs.RoundQuiet.{round-sweeps}
use Rattle.run_model.proofs.round_laws.each_node_that_is_up_sweeps.Goals as goal

pub returns : goal.returns
returns c = round-sweeps
