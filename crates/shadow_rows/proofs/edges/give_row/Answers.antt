use Rattle.std.proofs.Common.{refl, subst, sym}
use Rattle.edge_table.specs.Table.{Edges, edge_at, with_given}
use Rattle.shadow_rows.specs.Pairs.{ChangesEdge}
use Rattle.shadow_rows.proofs.PairLemmas.{edge-changed}
use Rattle.shadow_rows.proofs.edges.give_row.Goals as goal

pub returns : goal.returns
returns c =
    let old = c.args.edges.now in
    let row = c.args.row in
    let n = c.args.number in
    let changed = edge-changed old row.owner row.target n (with_given row.count (edge_at old n)) (with_given row.count) c.requires.there c.requires.number c.requires.within refl refl refl in
    subst (λ (t : Edges). ChangesEdge old t row.owner row.target (with_given row.count)) (sym c.give.ensures) changed
