use Rattle.std.proofs.Common.{◌+◌, ◌<◌, ◌^◌, ℕ, min, refl, arith, rules}
use Rattle.row_sums.proofs.RowLemmas.{takes_in}
use Rattle.row_sums.proofs.SumLemmas.{is_sum, kept_in_sums}
use Rattle.undo_log.proofs.KeyLemmas.{Key, key_order, keys-sorted, same_key, still_counts}
use Rattle.undo_log.specs.Keys.{IsKeyBelow}
use Rattle.undo_log.specs.declared.corrections.Correction.{Correction}
use Rattle.undo_log.proofs.corrections.add_up.Goals as goal

pub returns : goal.returns
returns c =
    let key : Correction → Key = λ r. (r.owner, r.target) in
    let told : Correction → ℕ = λ r. r.told in
    let admitted : Correction → ℕ = λ r. r.admitted in
    let summed : Correction → Correction → Correction = λ next last. record last { told = min (last.told + next.told) 18446744073709551615; admitted = min (last.admitted + next.admitted) 18446744073709551615 } in
    let sorted = c.sort.ensures.sorted in
    let told_sum = is_sum IsKeyBelow same_key key told (2 ^ 63) key_order _
    (λ s next last b t next' last' h. takes_in same_key key told (2 ^ 63) 18446744073709551615 (omega arith) next last b next' last' (summed next last) refl refl (search rules) (search rules) (search rules))
    _ (λ x y. keys-sorted (key x) (key y)) _ _ _ _ (λ t. c.requires.room.told t.0 t.1) c.sort.ensures.permutation sorted c.dedup_by.ensures.filtered.told in
    let admitted_sum = is_sum IsKeyBelow same_key key admitted (2 ^ 63) key_order _
    (λ s next last b t next' last' h. takes_in same_key key admitted (2 ^ 63) 18446744073709551615 (omega arith) next last b next' last' (summed next last) refl refl (search rules) (search rules) (search rules))
    _ (λ x y. keys-sorted (key x) (key y)) _ _ _ _ (λ t. c.requires.room.admitted t.0 t.1) c.sort.ensures.permutation sorted c.dedup_by.ensures.filtered.told in
    let stand = kept_in_sums (λ (r : Correction). 0 < r.told + r.admitted) _
    (λ s next last b t next' last' h. still_counts next last b next' last' (search rules) (search rules))
    _ _ _ _ c.requires.stand c.sort.ensures.permutation c.dedup_by.ensures.filtered.told in
    record {
      rise = told_sum.rise;
      stand = stand;
      totals = record { told = λ o t. told_sum.totals (o, t); admitted = λ o t. admitted_sum.totals (o, t) };
    }
