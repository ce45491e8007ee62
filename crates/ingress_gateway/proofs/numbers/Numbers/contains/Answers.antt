use Rattle.std.proofs.Common.{sym}
use Rattle.std.proofs.lemmas.Bool.Decides.{same_from_decides}
use Rattle.ingress_gateway.proofs.NumbersLemmas.{inside-decides, inside-last, outside-later}
use Rattle.ingress_gateway.proofs.numbers.Numbers.contains.Goals as goal

pub returns-in-Some : goal.returns-in-Some
returns-in-Some c =
    let last = inside-last _ _ _ _ c.self.invariant c.in-Some.ensures.some in
    let told = same_from_decides _ _ last (inside-decides c.self.inside.runs c.last_run.ensures.ordered c.from-number.result) in
    rw (← c.self.view_is, ← c.from-number.ensures) told

pub returns-in-None : goal.returns-in-None
returns-in-None c =
    let told = outside-later c.self.inside.runs c.last_run.ensures.ordered c.from-number.result c.in-None.ensures.none in
    rw (← c.self.view_is, ← c.from-number.ensures) (sym told)
