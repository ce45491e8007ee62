use Rattle.std.proofs.Common.{sym, ◌∙◌}
use Rattle.shadow_rows.proofs.EndsLemmas.{ends-tabled, unnamed-owner, unnamed-target}
use Rattle.shadow_rows.proofs.edges.number_of.Goals as goal

pub returns-in_err-from-clause-number : goal.returns-in_err-from-clause-number
returns-in_err-from-clause-number c =
    c.from_residual.ensures ∙ sym (unnamed-owner c.args.shadows.now.names c.args.edges.now c.args.owner c.args.target c.requires (sym c.in_err-from.ensures.found))

pub returns-in_err-to-clause-number : goal.returns-in_err-to-clause-number
returns-in_err-to-clause-number c =
    c.from_residual-in_err-to.ensures ∙ sym (unnamed-target c.args.shadows.now.names c.args.edges.now c.args.owner c.args.target c.requires (sym c.in_err-to.ensures.found))

pub number_of-requires-clause-ends : goal.number_of-requires-clause-ends
number_of-requires-clause-ends c =
    ends-tabled c.args.shadows.now.names c.args.edges.now c.args.owner c.args.target c.in_ok-from.from c.in_ok-to.to c.requires c.edge_count-edges.ensures.long c.edge_count-edges.ensures.distinct (sym c.in_ok-from.ensures.found) (sym c.in_ok-to.ensures.found) c.in_ok-from.ensures.place c.in_ok-to.ensures.place
