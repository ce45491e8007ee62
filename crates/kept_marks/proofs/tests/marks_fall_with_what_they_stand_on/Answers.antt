use Rattle.std.proofs.Common.{◌<◌, arith}
use Rattle.kept_marks.proofs.tests.marks_fall_with_what_they_stand_on.Goals as goal

pub sweep-requires-2 : goal.sweep-requires-2
sweep-requires-2 g c = (let inside : 0 < 2 = omega arith in c.touch.ensures.kept _ inside c.sweep.ensures.kept)

pub restart-requires-2-clause-marked : goal.restart-requires-2-clause-marked
restart-requires-2-clause-marked g c = λ a b h. ((c.pop_fallen.ensures.kept _ c.sweep-2.ensures.kept).supports a b h).0
