use Rattle.std.proofs.Common.{◌≡◌, ◌∙◌, rules}
use Rattle.std.proofs.lemmas.List.Filters.{dedup_is}
use Rattle.std.proofs.lemmas.List.Sorted.{answers_always, ranks_by}
use Rattle.std.specs.Ordering.{is_lt}
use Rattle.crgc_ids.specs.Actor.{Actor}
use Rattle.row_sums.proofs.OrderLemmas.{actors-total}
use Rattle.row_sums.specs.Orders.{compare_actors}
use Rattle.graph_wire.proofs.Sorting.{table-sorted}
use Rattle.graph_wire.proofs.names.sorted.Goals as goal

pub returns-in-Ok : goal.returns-in-Ok
returns-in-Ok c =
    dedup_is _ _ _ c.dedup.ensures.filtered
    ∙ table-sorted _ _ c.sort_by.ensures.permutation
    (c.in-Ok.ensures.sorted (λ a b. is_lt (compare_actors a b)) (ranks_by actors-total (λ (a : Actor). a))
    (answers_always _ (λ a r. is_lt r ≡ is_lt (compare_actors a.0.now a.1.0.now)) _ (λ f a r f' q. search rules)))
