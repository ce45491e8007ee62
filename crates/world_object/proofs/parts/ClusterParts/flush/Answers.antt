use Rattle.std.proofs.Common.{refl}
use Rattle.operation_model.specs.declared.operations.Op.TheVariants as ops
use Rattle.operation_model.specs.declared.replies.Reply.TheVariants as replies
use Rattle.world_object.proofs.Effects.{stands-flushed}
use Rattle.world_object.proofs.Openings.{grants-legal}
use Rattle.world_object.proofs.parts.ClusterParts.flush.Goals as goal

pub tell-requires-clause-legal : goal.tell-requires-clause-legal
tell-requires-clause-legal c = grants-legal c.args.self.now c.requires.stands (ops.Flush c.args.actor) replies.Done tt c.requires.may refl

pub returns-in-Ok-clause-stands : goal.returns-in-Ok-clause-stands
returns-in-Ok-clause-stands c = stands-flushed c.args.self.now c.tell.new.self c.args.actor c.requires.stands c.in-Ok.ensures.ok
