use Rattle.operation_model.proofs.SoundCourses.{act-legal, new-sound, rest-legal, sound-course}
use Rattle.operation_model.proofs.laws.a_course_stays_sound.Goals as goal

pub returns-clause-new : goal.returns-clause-new
returns-clause-new c = new-sound

pub returns-clause-sound : goal.returns-clause-sound
returns-clause-sound c = λ o h opening course. (sound-course o opening h course).0

pub returns-clause-keeps : goal.returns-clause-keeps
returns-clause-keeps c = λ o h opening course. (sound-course o opening h course).1

pub returns-clause-act : goal.returns-clause-act
returns-clause-act c = λ o h a act pass opening course fit up. act-legal o opening h course a pass up act fit

pub returns-clause-rest : goal.returns-clause-rest
returns-clause-rest c = λ o h a locals pass opening course fit up. rest-legal o opening h course a pass up locals fit
