use Rattle.std.proofs.Common.{refl, subst, sym}
use Rattle.edge_table.specs.Table.{Edges, edge_at, with_released}
use Rattle.shadow_rows.specs.Pairs.{ChangesEdge}
use Rattle.shadow_rows.proofs.PairLemmas.{edge-changed}
use Rattle.shadow_rows.proofs.edges.take_back.Goals as goal

pub returns : goal.returns
returns c =
    let old = c.args.edges.now in
    let n = c.number-number.result in
    let changed = edge-changed old c.args.owner c.args.target n (with_released c.args.count (edge_at old n)) (with_released c.args.count) c.requires.there c.number-number.ensures.number c.number-number.ensures.within refl refl refl in
    subst (λ (t : Edges). ChangesEdge old t c.args.owner c.args.target (with_released c.args.count)) (sym c.release.ensures) changed
