use Rattle.operation_model.proofs.CourseLaws.{limit-course}
use Rattle.operation_model.proofs.laws.a_halt_at_a_limit_is_due.Goals as goal

pub returns : goal.returns
returns c = λ o h w new course halted. limit-course o new h course w halted
