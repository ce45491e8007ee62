use Rattle.node_threads.specs.Pumping.{HasAll, HasCarries, HasWindow}
use Rattle.node_threads.proofs.PumpLemmas.{since-ok, window-all}
use Rattle.node_threads.proofs.rounds.pump_once.Goals as goal

pub returns-in-Ok-clause-all : goal.returns-in-Ok-clause-all
returns-in-Ok-clause-all g c =
    since-ok (HasCarries c.args.node 16) (HasWindow c.args.node) (HasAll c.args.node) (window-all c.args.node) c.args.node c.args.pass.now.own c.carry_all.new.pass.own _ c.cut_window.result
    c.in-Ok.ensures.carries c.cut_window.ensures.all
