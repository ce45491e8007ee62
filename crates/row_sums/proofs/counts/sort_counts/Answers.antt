use Rattle.std.proofs.Common.{◌≡◌, rules}
use Rattle.std.proofs.lemmas.List.Sorted.{answers_always, ranks_by}
use Rattle.std.specs.Ordering.{is_lt}
use Rattle.crgc_ids.specs.Actor.{Actor}
use Rattle.crgc_ids.specs.declared.rising.ActorCount.{ActorCount}
use Rattle.row_sums.proofs.OrderLemmas.{actors-total}
use Rattle.row_sums.specs.Orders.{compare_actors}
use Rattle.row_sums.proofs.counts.sort_counts.Goals as goal

pub returns-in-Ok-clause-sorted : goal.returns-in-Ok-clause-sorted
returns-in-Ok-clause-sorted c =
    let key : ActorCount → Actor = λ r. r.actor in
    c.in-Ok.ensures.sorted (λ r s. is_lt (compare_actors (key r) (key s))) (ranks_by actors-total key)
    (answers_always _ (λ a r. is_lt r ≡ is_lt (compare_actors (key a.0.now) (key a.1.0.now))) _ (λ f a r f' q. search rules))

pub returns-in-Err-clause-sorted : goal.returns-in-Err-clause-sorted
returns-in-Err-clause-sorted c =
    let key : ActorCount → Actor = λ r. r.actor in
    c.sort_unstable_by.ensures.sorted (λ r s. is_lt (compare_actors (key r) (key s))) (ranks_by actors-total key)
    (answers_always _ (λ a r. is_lt r ≡ is_lt (compare_actors (key a.0.now) (key a.1.0.now))) _ (λ f a r f' q. search rules))
