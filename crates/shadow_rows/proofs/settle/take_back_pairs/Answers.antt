use Rattle.std.proofs.Common.{ap, arith, refl}
use Rattle.std.proofs.lemmas.Int.{ints}
use Rattle.crgc_ids.specs.Actor.{Actor}
use Rattle.crgc_ids.specs.declared.rising.PairCount.{PairCount}
use Rattle.edge_table.specs.Table.{same_pair, with_released}
use Rattle.edge_table.specs.declared.table.Edge.{Edge}
use Rattle.shadow_table.proofs.RowLemmas.{total-fits}
use Rattle.shadow_rows.proofs.PairLemmas.{released-adds, row-changed, same_pair-decides}
use Rattle.shadow_rows.proofs.AddedLemmas.{tabled-counted}
use Rattle.shadow_rows.proofs.settle.take_back_pairs.Goals as goal

pub take_back-requires-clause-tabled : goal.take_back-requires-clause-tabled
take_back-requires-clause-tabled c =
    tabled-counted c.args.shadows.now.names c.args.shadows.now.names c.args.edges.now c.loop-row.edges refl c.loop-row.invariant.ends c.requires.tabled

pub take_back-requires-clause-fits : goal.take_back-requires-clause-fits
take_back-requires-clause-fits c =
    let row = c.row-item.result in
    let so_far = ap (λ (e : Edge). e.count) (c.loop-row.invariant.edges row.owner row.target) in
    let whole = c.requires.fits row.owner row.target in
    let part = total-fits {K = Actor × Actor} same_pair (λ (r : PairCount). (r.owner, r.target)) (λ (r : PairCount). r.count) c.args.rows.now c.loop-row.row-index row c.loop-row-test.true c.row-item.is ((same_pair-decides (row.owner, row.target) (row.owner, row.target)).1 refl) in
    omega (arith, ints, so_far, whole, part)

pub loop-row-preserved : goal.loop-row-preserved
loop-row-preserved c =
    row-changed with_released released-adds c.args.rows.now c.loop-row.row-index c.row-item.result c.args.edges.now c.loop-row.edges c.take_back.new.edges c.loop-row-test.true c.row-item.is c.loop-row.invariant c.take_back.ensures
