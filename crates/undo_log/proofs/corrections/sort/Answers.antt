use Rattle.std.proofs.Common.{◌≡◌, rules}
use Rattle.std.proofs.lemmas.List.Sorted.{answers_always, ranks_by}
use Rattle.std.specs.Ordering.{is_lt}
use Rattle.undo_log.proofs.KeyLemmas.{Key, keys-total}
use Rattle.undo_log.specs.Keys.{compare_keys}
use Rattle.undo_log.specs.declared.corrections.Correction.{Correction}
use Rattle.undo_log.proofs.corrections.sort.Goals as goal

pub returns-in-Ok-clause-sorted : goal.returns-in-Ok-clause-sorted
returns-in-Ok-clause-sorted c =
    let key : Correction → Key = λ r. (r.owner, r.target) in
    c.in-Ok.ensures.sorted (λ r s. is_lt (compare_keys (key r) (key s))) (ranks_by keys-total key)
    (answers_always _ (λ a r. is_lt r ≡ is_lt (compare_keys (key a.0.now) (key a.1.0.now))) _ (λ f a r f' q. search rules))

pub returns-in-Err-clause-sorted : goal.returns-in-Err-clause-sorted
returns-in-Err-clause-sorted c =
    let key : Correction → Key = λ r. (r.owner, r.target) in
    c.sort_unstable_by.ensures.sorted (λ r s. is_lt (compare_keys (key r) (key s))) (ranks_by keys-total key)
    (answers_always _ (λ a r. is_lt r ≡ is_lt (compare_keys (key a.0.now) (key a.1.0.now))) _ (λ f a r f' q. search rules))
