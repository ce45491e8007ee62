use Rattle.std.proofs.Common.{◌≡◌, ◌<◌, ◌^◌, ◌&&◌, List, cond, length, refl, sym, ◌∙◌, ap, subst}
use Rattle.std.proofs.lemmas.List.Elements.{All-from_recursion, recursion_from_All}
use Rattle.std.proofs.lemmas.List.Sorted.{All-permutation, IsPermutation-sym, sum_by-IsPermutation}
use Rattle.std.specs.List.{AllByRecursion}
use Rattle.std.specs.List.Sorted.{IsPermutation}
use Rattle.crgc_ids.specs.Actor.{Actor, same_actor}
use Rattle.crgc_ids.specs.declared.rising.PairCount.{PairCount}
use Rattle.history_model.specs.declared.records.Delta.{Delta}
use Rattle.history_model.specs.Ledgers.{CountFromOne, actor_total, delta_ledger, entries_ledger, pair_total, received_total, row_flags}
use Rattle.delta_graph.proofs.NameLemmas.{rows-name_same}
use Rattle.delta_graph.proofs.delta.sum_of.Goals as goal

-- rows in another order count the same
moved-total : (rows moved : List PairCount) → IsPermutation rows moved → (b a : Actor) → pair_total b a moved ≡ pair_total b a rows
moved-total rows moved is b a = sum_by-IsPermutation (λ r. cond (same_actor b r.owner && same_actor a r.target) r.count 0) rows moved is

-- and count from 1 where these do
moved-stand : (rows moved : List PairCount) → IsPermutation rows moved → AllByRecursion (λ r. 0 < r.count) moved → AllByRecursion (λ r. 0 < r.count) rows
moved-stand rows moved is stand =
    recursion_from_All (λ (r : PairCount). 0 < r.count) rows
    (All-permutation (λ (r : PairCount). 0 < r.count) moved rows (IsPermutation-sym rows moved is) (All-from_recursion (λ (r : PairCount). 0 < r.count) moved stand))

pub sum_of_states-requires : goal.sum_of_states-requires
sum_of_states-requires c = λ a. subst (λ rows. received_total a rows < 2 ^ 32) (sym c.in_ok-states.ensures) (c.requires.received a)

pub sum_of_counts-requires-clause-fits : goal.sum_of_counts-requires-clause-fits
sum_of_counts-requires-clause-fits c = λ a. subst (λ rows. actor_total a rows < 2 ^ 32) (sym c.in_ok-sent.ensures.rows) (c.requires.sent a)

pub sum_of_pairs-requires-clause-fits : goal.sum_of_pairs-requires-clause-fits
sum_of_pairs-requires-clause-fits c = λ b a.
    subst (λ total. total < 2 ^ 32) (sym (moved-total _ _ c.in_ok-created.ensures.rows b a)) (c.requires.created b a)

pub sum_of_pairs-requires-2-clause-fits : goal.sum_of_pairs-requires-2-clause-fits
sum_of_pairs-requires-2-clause-fits c = λ b a. subst (λ rows. pair_total b a rows < 2 ^ 32) (sym c.in_ok-released.ensures.rows) (c.requires.released b a)

pub returns-clause-sum : goal.returns-clause-sum
returns-clause-sum c = (
  refl,
  record {
    received = λ a. c.in_ok-sum_of_states.ensures.received a ∙ ap (received_total a) c.in_ok-states.ensures;
    flags = λ a. c.in_ok-sum_of_states.ensures.flags a ∙ ap (row_flags a) c.in_ok-states.ensures;
    sent = λ a. c.sum_of_counts.ensures.totals a ∙ ap (actor_total a) c.in_ok-sent.ensures.rows;
    created = λ b a. c.sum_of_pairs.ensures.totals b a ∙ moved-total _ _ c.in_ok-created.ensures.rows b a;
    released = λ b a. c.sum_of_pairs-2.ensures.totals b a ∙ ap (pair_total b a) c.in_ok-released.ensures.rows;
  },
)

pub returns-clause-named : goal.returns-clause-named
returns-clause-named c =
    let all = entries_ledger c.args.entries.now in
    let d : Delta = record { node = c.args.node; states = c.in_ok-sum_of_states.field-0; sent = c.sum_of_counts.result; created = c.sum_of_pairs.result; released = c.sum_of_pairs-2.result } in
    let stand : CountFromOne (delta_ledger d) = record { sent = c.sum_of_counts.ensures.stand; created = c.sum_of_pairs.ensures.stand; released = c.sum_of_pairs-2.ensures.stand } in
    let all_stand : CountFromOne all = record {
      sent = subst (AllByRecursion (λ r. 0 < r.count)) c.in_ok-sent.ensures.rows c.in_ok-sent.ensures.stand;
      created = moved-stand _ _ c.in_ok-created.ensures.rows c.in_ok-created.ensures.stand;
      released = subst (AllByRecursion (λ r. 0 < r.count)) c.in_ok-released.ensures.rows c.in_ok-released.ensures.stand;
    } in
    ap length (rows-name_same (delta_ledger d) all stand all_stand (returns-clause-sum c).1)
