use Rattle.std.proofs.Common.{◌≡◌, ◌<◌, ◌^◌, Bool, cond, sym, ◌∙◌, ap, subst, rules}
use Rattle.std.proofs.lemmas.List.Sorted.{answers_always, ranks_by, sum_by-IsPermutation}
use Rattle.std.specs.Ordering.{is_lt}
use Rattle.crgc_ids.specs.Actor.{Actor, IsActorBelow, same_actor}
use Rattle.history_model.specs.declared.records.StateRow.{StateRow}
use Rattle.crgc_ids.proofs.KeyOrders.{actor_order}
use Rattle.row_sums.proofs.FoldLemmas.{is_fold}
use Rattle.row_sums.proofs.OrderLemmas.{actors-total}
use Rattle.row_sums.proofs.RowLemmas.{actors-sorted}
use Rattle.row_sums.specs.Orders.{compare_actors}
use Rattle.delta_graph.proofs.StateLemmas.{Fit, flags-sorted, folds, read, reads}
use Rattle.delta_graph.proofs.states.add_up_states.Goals as goal

pub returns-in-Ok : goal.returns-in-Ok
returns-in-Ok c =
    let rows = c.args.rows.now.items in
    let sorted = c.sort_by.new.self.items in
    let key : StateRow → Actor = λ r. r.actor in
    let by_actor : StateRow → StateRow → Bool = λ r t. is_lt (compare_actors r.actor t.actor) in
    let order = ranks_by actors-total key in
    let moved = λ (a : Actor). sum_by-IsPermutation (λ (r : StateRow). cond (same_actor a r.actor) r.received 0) rows sorted c.sort_by.ensures.permutation in
    let fits : Fit sorted = λ a. subst (λ n. n < 2 ^ 32) (sym (moved a)) (c.requires a) in
    let fold = is_fold IsActorBelow same_actor key actor_order read Fit reads _
    (λ s next last b t next' last' h. folds next last b next' last' (search rules) (search rules) (search rules))
    _ (λ x y. actors-sorted x.actor y.actor) sorted c.dedup_by.new.self.items _ fits
    (c.in-Ok.ensures.sorted by_actor order (answers_always _ (λ a r. is_lt r ≡ by_actor a.0.now a.1.0.now) _ (λ f a r f' q. search rules))) c.dedup_by.ensures.filtered.told in
    record {
      rise = fold.rise;
      received = λ a. ap (λ p. p.0) (fold.reads a) ∙ moved a;
      flags = λ a. ap (λ p. p.1) (fold.reads a) ∙ flags-sorted a rows sorted (c.sort_by.ensures.stable by_actor order (answers_always _ (λ a r. is_lt r ≡ by_actor a.0.now a.1.0.now) _ (λ f a r f' q. search rules)));
    }
