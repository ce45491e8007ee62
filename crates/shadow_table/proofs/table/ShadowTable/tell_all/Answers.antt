use Rattle.std.proofs.Common.{ap, arith, refl}
use Rattle.crgc_ids.specs.Actor.{same_actor}
use Rattle.crgc_ids.specs.declared.rising.ActorCount.{ActorCount}
use Rattle.crgc_ids.proofs.ActorLaws.{same_actor-decides}
use Rattle.shadow_table.specs.declared.table.Shadow.{Shadow}
use Rattle.shadow_table.proofs.RowLemmas.{total-fits}
use Rattle.shadow_table.proofs.table.ShadowTable.tell_all.Goals as goal

pub tell-requires-clause-fits : goal.tell-requires-clause-fits
tell-requires-clause-fits c =
    let row = c.row-item.result in
    let so_far = ap (λ (s : Shadow). s.told) (c.loop-row.invariant.shadows row.actor) in
    let whole = c.requires.fits row.actor in
    let one = c.from.ensures in
    let part = total-fits same_actor (λ (r : ActorCount). r.actor) (λ (r : ActorCount). r.count) c.args.rows.now c.loop-row.row-index row c.loop-row-test.true c.row-item.is ((same_actor-decides row.actor row.actor).1 refl) in
    omega arith
