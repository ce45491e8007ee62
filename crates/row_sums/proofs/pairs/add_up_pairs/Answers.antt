use Rattle.std.proofs.Common.{◌+◌, ◌<◌, ◌^◌, ℕ, min, refl, arith, rules}
use Rattle.crgc_ids.specs.Actor.{Actor}
use Rattle.crgc_ids.specs.declared.rising.PairCount.{PairCount}
use Rattle.row_sums.proofs.RowLemmas.{pairs-sorted, stays_positive, takes_in}
use Rattle.row_sums.proofs.SumLemmas.{is_sum, kept_in_sums}
use Rattle.row_sums.proofs.pairs.add_up_pairs.Goals as goal
use Rattle.crgc_ids.proofs.KeyOrders.{PairBelow, pair_order, same_pair}

pub returns : goal.returns
returns c =
    let count : PairCount → ℕ = λ r. r.count in
    let summed : PairCount → PairCount → PairCount = λ next last. record last { count = min (last.count + next.count) 4294967295 } in
    let key : PairCount → Actor × Actor = λ r. (r.owner, r.target) in
    let sorted = c.sort_pairs.ensures.sorted in
    let sum = is_sum PairBelow same_pair key count (2 ^ 32) pair_order _
    (λ s next last b t next' last' h. takes_in same_pair key count (2 ^ 32) 4294967295 (omega arith) next last b next' last' (summed next last) refl refl (search rules) (search rules) (search rules))
    _ (λ x y. pairs-sorted (key x) (key y)) _ _ _ _ (λ t. c.requires.fits t.0 t.1) c.sort_pairs.ensures.permutation sorted c.dedup_by.ensures.filtered.told in
    let stand = kept_in_sums (λ (r : PairCount). 0 < r.count) _
    (λ s next last b t next' last' h. stays_positive count next last b next' last' (summed next last) refl (search rules) (search rules))
    _ _ _ _ c.requires.stand c.sort_pairs.ensures.permutation c.dedup_by.ensures.filtered.told in
    record { rise = sum.rise; stand = stand; totals = λ b a. sum.totals (b, a) }
