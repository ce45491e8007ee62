use Rattle.std.proofs.Common.{ap}
use Rattle.node_threads.specs.Questions.{times_given_up}
use Rattle.node_threads.proofs.PumpLemmas.{made-same, since-carry}
use Rattle.node_threads.proofs.rounds.carry_from.Goals as goal

pub returns-in-Ok-clause-carry : goal.returns-in-Ok-clause-carry
returns-in-Ok-clause-carry g c =
    since-carry c.unwrap-from.result c.args.number c.args.at c.args.pass.now.number c.in-Ok.reply c.args.pass.now.own c.ask.new.pass.own
    (made-same c.new.result c.unwrap-from.result c.args.number c.unwrap-from.ensures c.new.ensures.some) c.in-Ok.ensures.asked.own

pub returns-in-Ok-clause-gives : goal.returns-in-Ok-clause-gives
returns-in-Ok-clause-gives g c = ap times_given_up c.in-Ok.ensures.asked.own

pub returns-in-Err-clause-gives : goal.returns-in-Err-clause-gives
returns-in-Err-clause-gives g c = ap times_given_up c.in-Err.ensures.asked.own
