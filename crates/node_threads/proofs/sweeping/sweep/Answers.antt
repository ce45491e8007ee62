use Rattle.std.proofs.Common.{subst, sym}
use Rattle.node_threads.specs.Fetching.{AreSweeps, GoesOrEnds}
use Rattle.node_threads.proofs.RoundLemmas.{can-sweep, settled, swept-out}
use Rattle.node_threads.proofs.sweeping.sweep.Goals as goal

pub sweep_out-requires : goal.sweep_out-requires
sweep_out-requires g c = settled c.args.lock.now c.args.pass.now c.args.collector.now c.requires.may

pub ask-requires-clause-may : goal.ask-requires-clause-may
ask-requires-clause-may g c = (let can = c.requires.may in can.may)

pub ask-requires-clause-fits : goal.ask-requires-clause-fits
ask-requires-clause-fits g c =
    can-sweep c.args.lock.now c.args.pass.now c.args.collector.now c.requires.may c.sweep_out.new.collector c.in-Ok.verdict c.in-Ok.ensures.ok c.requires.given

pub returns-in-Ok-ask-clause-swept : goal.returns-in-Ok-ask-clause-swept
returns-in-Ok-ask-clause-swept g c =
    subst (GoesOrEnds c.args.lock.now c.args.pass.now c.ask.new.pass c.args.collector.now c.sweep_out.new.collector (AreSweeps c.args.collector.now c.sweep_out.new.collector)) (sym c.done.ensures)
    (swept-out c.args.lock.now c.args.pass.now c.args.collector.now c.requires.may c.sweep_out.new.collector c.in-Ok.verdict c.in-Ok.ensures.ok
    c.ask.new.pass c.in-Ok-ask.reply c.in-Ok-ask.ensures.asked c.in-Ok-ask.ensures.ok)
