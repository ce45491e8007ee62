use Rattle.std.proofs.Common.{◌≤◌, arith, length}
use Rattle.std.proofs.lemmas.Grind.{common_steps}
use Rattle.kept_marks.specs.Kept.{IsSame}
use Rattle.kept_marks.proofs.ChangeLemmas.{kept-same}
use Rattle.kept_marks.proofs.StepLemmas.{kept_of}
use Rattle.kept_marks.proofs.kept.KeptMarks.reserve.Goals as goal

pub returns-clause-kept : goal.returns-clause-kept
returns-clause-kept c = λ g kept.
    let new = kept_of c.resize-2.new.self.items c.reserve.new.self c.reserve-2.new.self c.reserve-3.new.self in
    let long : length c.args.self.now.supports ≤ length new.supports = grind (arith, common_steps) in
    let same : IsSame c.args.self.now new = grind (arith, common_steps) in
    kept-same g c.args.self.now new kept long same
