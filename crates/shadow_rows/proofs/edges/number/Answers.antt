use Rattle.std.proofs.Common.{◌∙◌, refl, subst, sym}
use Rattle.std.specs.Option.{IsSome}
use Rattle.edge_table.specs.Table.{same_pair}
use Rattle.shadow_rows.proofs.PairLemmas.{number-there}
use Rattle.shadow_rows.proofs.edges.number.Goals as goal

pub unwrap-requires : goal.unwrap-requires
unwrap-requires c =
    let found = c.number_of.ensures.number ∙ number-there (same_pair (c.args.owner, c.args.target)) c.args.edges.now.pairs c.requires.there in
    subst IsSome (sym found) refl
