use Rattle.operation_model.proofs.CourseLaws.{kept-course, kept-sound}
use Rattle.operation_model.proofs.laws.a_course_is_a_run.Goals as goal

pub returns-clause-run : goal.returns-clause-run
returns-clause-run c = λ o h new course. (let k = kept-course o new h course in k.run)

pub returns-clause-none_due : goal.returns-clause-none_due
returns-clause-none_due c = λ o h new course. (let k = kept-course o new h course in k.none_due)

pub returns-clause-legal : goal.returns-clause-legal
returns-clause-legal c = λ o h new course. (kept-sound o new h (kept-course o new h course)).0

pub returns-clause-verdicts : goal.returns-clause-verdicts
returns-clause-verdicts c = λ o h new course. (let k = kept-course o new h course in let x = k.hands in x.verdicts_are)

pub returns-clause-kept : goal.returns-clause-kept
returns-clause-kept c = λ o h new course. kept-course o new h course
