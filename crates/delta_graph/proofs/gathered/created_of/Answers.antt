use Rattle.std.proofs.Common.{◌≡◌, ◌<◌, ◌++◌, true, false, sym, ◌∙◌, ap, subst, refl}
use Rattle.std.proofs.lemmas.List.Elements.{All-from_recursion, recursion_from_All}
use Rattle.std.proofs.lemmas.List.Sorted.{All-permutation, IsPermutation-filter_both}
use Rattle.std.specs.List.{AllByRecursion, filter}
use Rattle.std.specs.List.Sorted.{IsPermutation}
use Rattle.crgc_ids.specs.declared.rising.PairCount.{PairCount}
use Rattle.history_model.specs.Ledgers.{entries_ledger}
use Rattle.delta_graph.specs.Sums.{is_of_part}
use Rattle.delta_graph.proofs.gathered.created_of.Goals as goal

-- both parts are the rows in another order
pub returns-clause-rows : goal.returns-clause-rows
returns-clause-rows c =
    let all = (entries_ledger c.args.entries.now).created in
    let both = c.in_ok-push_created-2.ensures.rows
    ∙ ap (λ rows. rows ++ filter (is_of_part false) all) (c.in_ok-push_created.ensures.rows ∙ ap (λ rows. rows ++ filter (is_of_part true) all) c.new-rows.ensures.items) in
    subst (IsPermutation all) (sym both) (IsPermutation-filter_both (is_of_part true) (is_of_part false) (λ r. refl) all)

pub returns-clause-stand : goal.returns-clause-stand
returns-clause-stand c =
    let all = (entries_ledger c.args.entries.now).created in
    let moved : IsPermutation all c.push_created-2.new.rows.items = returns-clause-rows c in
    recursion_from_All (λ (r : PairCount). 0 < r.count) c.push_created-2.new.rows.items
    (All-permutation (λ (r : PairCount). 0 < r.count) all c.push_created-2.new.rows.items moved (All-from_recursion (λ (r : PairCount). 0 < r.count) all c.in_ok-push_created.ensures.stand))
