use Rattle.refob_counts.proofs.RisingLemmas.{last_test}
use Rattle.refob_counts.proofs.rising.are_below.Goals as goal

pub returns-in-Some : goal.returns-in-Some
returns-in-Some c =
    last_test c.args.rows.now c.args.target c.in-Some.last.now c.lt.result c.requires c.in-Some.ensures.item.3 c.lt.ensures
