use Rattle.operation_model.specs.declared.operations.Op.TheVariants as ops
use Rattle.node_threads.specs.Pumping.{HasRemoval, HasWindow}
use Rattle.node_threads.specs.Questions.{IsMade}
use Rattle.node_threads.proofs.PumpLemmas.{removal-window, since-ok, since-some}
use Rattle.node_threads.proofs.rounds.cut_window.Goals as goal

pub returns-in-Ok-Some-clause-all : goal.returns-in-Ok-Some-clause-all
returns-in-Ok-Some-clause-all g c =
    since-ok (IsMade (ops.Window c.args.node)) (HasRemoval c.args.node) (HasWindow c.args.node) (removal-window c.args.node) c.args.node c.args.pass.now.own c.tell.new.pass.own _ c.remove.result
    (since-some c.args.node (IsMade (ops.Window c.args.node)) c.args.pass.now.own c.tell.new.pass.own c.in-Ok-Some.field-0 c.in-Ok-Some.cut c.in-Ok-Some.field-0-is c.in-Ok-Some.ensures.made) c.remove.ensures.all
