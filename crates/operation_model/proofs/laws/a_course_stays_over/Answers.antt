use Rattle.operation_model.proofs.OverCourses.{over-course}
use Rattle.operation_model.proofs.laws.a_course_stays_over.Goals as goal

pub returns : goal.returns
returns c = λ o h new course was. over-course o new h course was
