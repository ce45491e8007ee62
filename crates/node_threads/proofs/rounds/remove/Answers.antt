use Rattle.operation_model.specs.declared.operations.Op.TheVariants as ops
use Rattle.node_threads.specs.Pumping.{HasPublish, HasRemoval}
use Rattle.node_threads.specs.Questions.{IsMade}
use Rattle.node_threads.proofs.PumpLemmas.{publish-removal, since-ok, since-some}
use Rattle.node_threads.proofs.rounds.remove.Goals as goal

pub returns-in-Ok-Some-clause-all : goal.returns-in-Ok-Some-clause-all
returns-in-Ok-Some-clause-all g c =
    since-ok (IsMade (ops.Remove c.args.node)) (HasPublish c.args.node) (HasRemoval c.args.node) (publish-removal c.args.node) c.args.node c.args.pass.now.own c.tell.new.pass.own _ c.publish.result
    (since-some c.args.node (IsMade (ops.Remove c.args.node)) c.args.pass.now.own c.tell.new.pass.own c.in-Ok-Some.field-0 c.in-Ok-Some.removed c.in-Ok-Some.field-0-is c.in-Ok-Some.ensures.made) c.publish.ensures.all
