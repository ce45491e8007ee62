use Rattle.std.proofs.Common.{◌≡◌, rules}
use Rattle.std.proofs.lemmas.List.Sorted.{answers_always, ranks_by}
use Rattle.std.specs.Ordering.{is_lt}
use Rattle.crgc_ids.specs.Actor.{Actor}
use Rattle.row_sums.proofs.OrderLemmas.{actors-total}
use Rattle.row_sums.specs.Orders.{compare_actors}
use Rattle.delta_graph.proofs.names.sort_names.Goals as goal

pub returns-in-Ok-clause-sorted : goal.returns-in-Ok-clause-sorted
returns-in-Ok-clause-sorted c =
    c.in-Ok.ensures.sorted (λ a b. is_lt (compare_actors a b)) (ranks_by actors-total (λ (a : Actor). a))
    (answers_always _ (λ a r. is_lt r ≡ is_lt (compare_actors a.0.now a.1.0.now)) _ (λ f a r f' q. search rules))

pub returns-in-Err-clause-sorted : goal.returns-in-Err-clause-sorted
returns-in-Err-clause-sorted c =
    c.sort_unstable_by.ensures.sorted (λ a b. is_lt (compare_actors a b)) (ranks_by actors-total (λ (a : Actor). a))
    (answers_always _ (λ a r. is_lt r ≡ is_lt (compare_actors a.0.now a.1.0.now)) _ (λ f a r f' q. search rules))
