use Rattle.std.proofs.Common.{ap}
use Rattle.node_threads.specs.Questions.{times_given_up}
use Rattle.node_threads.proofs.questions.all_done.Goals as goal

pub returns-in-Ok-clause-gives : goal.returns-in-Ok-clause-gives
returns-in-Ok-clause-gives g c = ap times_given_up c.in-Ok.ensures.asked.own
