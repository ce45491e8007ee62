use Rattle.std.proofs.Common.{sym}
use Rattle.operation_model.specs.Answers.{ready}
use Rattle.world_object.proofs.Ready.{refill-none, refill-some}
use Rattle.world_object.proofs.parts.ClusterParts.refill_refusal.Goals as goal

pub returns-in-Some : goal.returns-in-Some
returns-in-Some c = (let p = c.args.self.now in refill-some (ready p.script.value p.world.past) c.args.skip c.in-Some.field-0 (sym c.in-Some.ensures))

pub returns-in-None : goal.returns-in-None
returns-in-None c = (let p = c.args.self.now in refill-none (ready p.script.value p.world.past) c.args.skip (sym c.in-None.ensures))
