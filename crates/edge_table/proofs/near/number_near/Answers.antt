use Rattle.std.proofs.Common.{ℕ, arith, get_or, subst}
use Rattle.crgc_ids.specs.Members.{IsAmong}
use Rattle.edge_table.proofs.IndexLemmas.{among-at}
use Rattle.edge_table.proofs.near.number_near.Goals as goal

pub returns-then-other-place-clause-number : goal.returns-then-other-place-clause-number
returns-then-other-place-clause-number c =
    let ends = c.args.ends.now in
    let i = c.loop-i.i in
    subst (λ place. IsAmong {A = ℕ × ℕ} (place, (get_or ends i (0, 0)).1) ends) c.if-other-place.true (among-at ends i (0, 0) (omega arith))
