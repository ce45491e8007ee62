use Rattle.std.proofs.Common.{Some, subst, sym}
use Rattle.operation_model.specs.declared.replies.Reply.TheVariants as replies
use Rattle.world_object.specs.declared.parts.ClusterParts.{ClusterParts}
use Rattle.world_object.specs.Locked.{IsStep}
use Rattle.world_object.specs.Standing.{state_of}
use Rattle.world_object.proofs.Answering.{halts-step}
use Rattle.world_object.proofs.parts.ClusterParts.carry_out.Goals as goal

pub returns-in-Err-clause-step : goal.returns-in-Err-clause-step
returns-in-Err-clause-step c =
    let old = c.args.self.now in
    let why = c.in-Err.halt in
    subst (λ (x : ClusterParts). IsStep (state_of old) c.args.pass c.args.op (replies.Halted why) (state_of (record x { halt = Some why }))) (sym c.in-Err.ensures.err)
    (halts-step old c.args.pass c.args.op why c.requires.goes_on c.requires.may c.in-Err.ensures.halt)
