use Rattle.refob_counts.proofs.CountsLemmas.{key_test}
use Rattle.refob_counts.proofs.table.is_next.Goals as goal

pub returns-then-are_below : goal.returns-then-are_below
returns-then-are_below c =
    let told = key_test c.args.strays.now.entries c.args.target c.contains_key.result c.contains_key.ensures in
    (λ free. (c.are_below.ensures.0 c.if-are_below.true, told.0 free), λ next. told.1 next.1)
