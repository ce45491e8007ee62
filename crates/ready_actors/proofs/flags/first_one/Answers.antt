use Rattle.std.proofs.Common.{◌<◌, ◌/◌, ◌^◌, arith, refl}
use Rattle.ready_actors.proofs.WordLemmas.{first-shifted, none-beyond, none-shifted}
use Rattle.ready_actors.proofs.flags.first_one.Goals as goal

pub returns-then-from-ge64-clause-none : goal.returns-then-from-ge64-clause-none
returns-then-from-ge64-clause-none c = none-beyond c.args.word c.args.from (omega arith) c.if-from-ge64.true

pub returns-then-rest-eq0-clause-none : goal.returns-then-rest-eq0-clause-none
returns-then-rest-eq0-clause-none c = none-shifted c.args.word c.args.from c.if-rest-eq0.true

pub returns-else-rest-eq0-clause-some : goal.returns-else-rest-eq0-clause-some
returns-else-rest-eq0-clause-some c =
    let some : 0 < c.args.word / 2 ^ c.args.from = omega (arith, c.if-rest-eq0.false) in
    (first-shifted c.args.word c.args.from _ (omega arith) some refl).0

pub returns-else-rest-eq0-clause-in_range : goal.returns-else-rest-eq0-clause-in_range
returns-else-rest-eq0-clause-in_range c =
    let some : 0 < c.args.word / 2 ^ c.args.from = omega (arith, c.if-rest-eq0.false) in
    (first-shifted c.args.word c.args.from _ (omega arith) some refl).1
