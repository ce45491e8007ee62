use Rattle.std.proofs.Common.{refl, subst, sym}
use Rattle.std.specs.Option.{IsSome}
use Rattle.ingress_gateway.proofs.NumbersLemmas.{at_least, at_most, not_above}
use Rattle.ingress_gateway.proofs.numbers.last_run.Goals as goal

pub returns-in-Some-clause-some : goal.returns-in-Some-clause-some
returns-in-Some-clause-some c =
    let lies = c.range.ensures.in_range tt in
    let here = lies.3 _ _ c.in-Some.ensures.steps in
    let greatest = lies.4 _ _ c.in-Some.ensures.steps in
    record {
      there = here.1;
      before = at_most c.in-Some.first.now c.args.number here.0.1;
      last = λ other after has within. at_least c.in-Some.first.now other (greatest other (tt, not_above other c.args.number within) (subst IsSome (sym has) refl));
    }
