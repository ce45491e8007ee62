use Rattle.std.proofs.Common.{◌+◌, ◌<◌, ◌^◌, ℕ, min, refl, arith, rules}
use Rattle.crgc_ids.specs.Actor.{Actor, IsActorBelow, same_actor}
use Rattle.crgc_ids.specs.declared.rising.ActorCount.{ActorCount}
use Rattle.row_sums.proofs.RowLemmas.{actors-sorted, stays_positive, takes_in}
use Rattle.row_sums.proofs.SumLemmas.{is_sum, kept_in_sums}
use Rattle.row_sums.proofs.counts.add_up_counts.Goals as goal
use Rattle.crgc_ids.proofs.KeyOrders.{actor_order}

pub returns : goal.returns
returns c =
    let count : ActorCount → ℕ = λ r. r.count in
    let summed : ActorCount → ActorCount → ActorCount = λ next last. record last { count = min (last.count + next.count) 4294967295 } in
    let key : ActorCount → Actor = λ r. r.actor in
    let sorted = c.sort_counts.ensures.sorted in
    let sum = is_sum IsActorBelow same_actor key count (2 ^ 32) actor_order _
    (λ s next last b t next' last' h. takes_in same_actor key count (2 ^ 32) 4294967295 (omega arith) next last b next' last' (summed next last) refl refl (search rules) (search rules) (search rules))
    _ (λ x y. actors-sorted (key x) (key y)) _ _ _ _ c.requires.fits c.sort_counts.ensures.permutation sorted c.dedup_by.ensures.filtered.told in
    let stand = kept_in_sums (λ (r : ActorCount). 0 < r.count) _
    (λ s next last b t next' last' h. stays_positive count next last b next' last' (summed next last) refl (search rules) (search rules))
    _ _ _ _ c.requires.stand c.sort_counts.ensures.permutation c.dedup_by.ensures.filtered.told in
    record { rise = sum.rise; stand = stand; totals = sum.totals }
