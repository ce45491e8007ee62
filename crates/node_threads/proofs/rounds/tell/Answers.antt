use Rattle.std.proofs.Common.{sym, subst}
use Rattle.node_threads.specs.Pumping.{SinceOrDown}
use Rattle.node_threads.specs.Questions.{IsMade}
use Rattle.node_threads.proofs.PumpLemmas.{free-gives, since-reply}
use Rattle.node_threads.proofs.rounds.tell.Goals as goal

pub returns-in-Ok-clause-made : goal.returns-in-Ok-clause-made
returns-in-Ok-clause-made g c =
    subst (SinceOrDown c.args.node (IsMade c.args.op) c.args.pass.now.own c.ask.new.pass.own) (sym c.done.ensures)
    (since-reply c.args.node c.args.op c.args.pass.now.number c.in-Ok.reply c.args.pass.now.own c.ask.new.pass.own c.requires.free c.in-Ok.ensures.asked.own)

pub returns-in-Ok-clause-gives : goal.returns-in-Ok-clause-gives
returns-in-Ok-clause-gives g c = free-gives c.args.op c.args.pass.now.number c.in-Ok.reply c.args.pass.now.own c.ask.new.pass.own c.requires.free c.in-Ok.ensures.asked.own

pub returns-in-Err-clause-gives : goal.returns-in-Err-clause-gives
returns-in-Err-clause-gives g c = (let asked = c.in-Err.ensures.asked in free-gives c.args.op c.args.pass.now.number _ c.args.pass.now.own c.ask.new.pass.own c.requires.free asked.own)
