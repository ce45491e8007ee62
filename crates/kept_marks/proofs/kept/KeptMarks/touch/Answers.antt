use Rattle.std.proofs.Common.{◌<◌, length, subst, sym, arith}
use Rattle.kept_marks.specs.Kept.{Kept}
use Rattle.kept_marks.proofs.StepLemmas.{in-at}
use Rattle.kept_marks.proofs.kept.KeptMarks.touch.Goals as goal

pub returns-clause-there : goal.returns-clause-there
returns-clause-there c =
    let inside = subst (λ (k : Kept). c.args.place < length k.supports) (sym c.self.view_is) c.requires in
    let room = c.self.invariant.touched in
    in-at _ _ c.args.place _ c.put.ensures (omega (arith, inside, room))
