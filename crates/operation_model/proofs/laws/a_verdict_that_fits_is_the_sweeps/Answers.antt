use Rattle.operation_model.proofs.CourseLaws.{fitting-verdict}
use Rattle.operation_model.proofs.laws.a_verdict_that_fits_is_the_sweeps.Goals as goal

pub returns : goal.returns
returns c = fitting-verdict
