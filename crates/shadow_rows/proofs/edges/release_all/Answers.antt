use Rattle.std.proofs.Common.{ap, arith, refl}
use Rattle.std.proofs.lemmas.Int.{ints}
use Rattle.crgc_ids.specs.Actor.{Actor}
use Rattle.crgc_ids.specs.declared.rising.PairCount.{PairCount}
use Rattle.edge_table.specs.Table.{same_pair, with_released}
use Rattle.edge_table.specs.declared.table.Edge.{Edge}
use Rattle.shadow_table.proofs.RowLemmas.{total-fits}
use Rattle.shadow_rows.proofs.PairLemmas.{released-adds, row-changed, same_pair-decides}
use Rattle.shadow_rows.proofs.edges.release_all.Goals as goal

pub release_row-requires-clause-fits : goal.release_row-requires-clause-fits
release_row-requires-clause-fits c =
    let row = c.index-rows-i.result in
    let so_far = ap (λ (e : Edge). e.count) (c.loop-i.invariant.edges row.owner row.target) in
    let whole = c.requires.fits row.owner row.target in
    let part = total-fits {K = Actor × Actor} same_pair (λ (r : PairCount). (r.owner, r.target)) (λ (r : PairCount). r.count) c.args.rows.now c.loop-i.i row c.loop-i-test.true c.index-rows-i.is ((same_pair-decides (row.owner, row.target) (row.owner, row.target)).1 refl) in
    omega (arith, ints, so_far, whole, part)

pub loop-i-preserved : goal.loop-i-preserved
loop-i-preserved c =
    row-changed with_released released-adds c.args.rows.now c.loop-i.i c.index-rows-i.result c.args.edges.now c.loop-i.edges c.release_row.new.edges c.loop-i-test.true c.index-rows-i.is c.loop-i.invariant c.release_row.ensures
