use Rattle.std.proofs.Common.{subst}
use Rattle.cluster_course.specs.Halting.{IsHalt}
use Rattle.script_player.proofs.Halting.{halts-now}
use Rattle.script_player.proofs.making.make.Goals as goal

pub returns-in-Err-Limit-clause-fault : goal.returns-in-Err-Limit-clause-fault
returns-in-Err-Limit-clause-fault c =
    halts-now c.args.course.now.cluster c.args.event c.args.course.now.past c.in-Err-Limit.which c.is_lawful.ensures.within
    (subst (λ x. IsHalt x c.args.event c.args.course.now) c.in-Err-Limit.field-0-is c.in-Err-Limit.ensures.halt).1
